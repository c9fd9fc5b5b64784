use Rattle.dip_explain_laws.proofs.SayingLemmas.{counted_against_said, counted_said, left_out_against_said, left_out_said}
use Rattle.dip_explain_laws.proofs.laws.supporters_are_as_said.Goals as goal

pub returns-clause-counted : goal.returns-clause-counted
returns-clause-counted c steps a line p h t n = counted_said steps a line t p h n

pub returns-clause-counted_against : goal.returns-clause-counted_against
returns-clause-counted_against c steps a line p q h t n = counted_against_said steps a line t p q h n

pub returns-clause-left_out : goal.returns-clause-left_out
returns-clause-left_out c steps a line p h t n = left_out_said steps a line t p h n

pub returns-clause-left_out_against : goal.returns-clause-left_out_against
returns-clause-left_out_against c steps a line p q h t n = left_out_against_said steps a line t p q h n
