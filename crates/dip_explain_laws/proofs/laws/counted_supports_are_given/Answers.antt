use Rattle.dip_explain_laws.proofs.StrengthLemmas.{backer, backer_against, parted, parted_against, unsupporting, unsupporting_against}
use Rattle.dip_explain_laws.proofs.laws.counted_supports_are_given.Goals as goal

pub returns-clause-backers : goal.returns-clause-backers
returns-clause-backers c s a p h i = backer s i a p h

pub returns-clause-against : goal.returns-clause-against
returns-clause-against c s a p q h i = backer_against s i a p q h

pub returns-clause-left_out : goal.returns-clause-left_out
returns-clause-left_out c s a p h i = unsupporting s i a p h

pub returns-clause-left_out_against : goal.returns-clause-left_out_against
returns-clause-left_out_against c s a p q h i = unsupporting_against s i a p q h

pub returns-clause-parted : goal.returns-clause-parted
returns-clause-parted c s a p h i e = parted s i a p h e

pub returns-clause-parted_against : goal.returns-clause-parted_against
returns-clause-parted_against c s a p q h i e = parted_against s i a p q h e
