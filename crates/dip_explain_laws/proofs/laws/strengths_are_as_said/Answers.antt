use Rattle.dip_explain_laws.proofs.BoundLemmas.{attack_told, opposition_told, prevent_told}
use Rattle.dip_explain_laws.proofs.laws.strengths_are_as_said.Goals as goal

pub returns-clause-attack : goal.returns-clause-attack
returns-clause-attack c line p q f i o k = attack_told line p q f i o k

pub returns-clause-opposition : goal.returns-clause-opposition
returns-clause-opposition c line p q f i o k = opposition_told line p q f i o k

pub returns-clause-prevent : goal.returns-clause-prevent
returns-clause-prevent c line p q w f i o k r = prevent_told line p q f i o k w r
