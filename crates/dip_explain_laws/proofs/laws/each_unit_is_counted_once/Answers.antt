use Rattle.dip_explain_laws.proofs.StrengthLemmas.{attackers_single, opponents_single, preventers_single}
use Rattle.dip_explain_laws.proofs.laws.each_unit_is_counted_once.Goals as goal

pub returns-clause-attackers : goal.returns-clause-attackers
returns-clause-attackers c s a p q i g = attackers_single s i a p q g

pub returns-clause-preventers : goal.returns-clause-preventers
returns-clause-preventers c s a p q i g = preventers_single s i a p q g

pub returns-clause-opponents : goal.returns-clause-opponents
returns-clause-opponents c s a p q i n = opponents_single s i a p q n
