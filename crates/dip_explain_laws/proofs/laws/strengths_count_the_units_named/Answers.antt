use Rattle.dip_explain_laws.proofs.StrengthLemmas.{attack_counts, hold_counts, opposition_counts, prevent_counts}
use Rattle.dip_explain_laws.proofs.laws.strengths_count_the_units_named.Goals as goal

pub returns-clause-attack : goal.returns-clause-attack
returns-clause-attack c s a p q = attack_counts s a p q

pub returns-clause-opposition : goal.returns-clause-opposition
returns-clause-opposition c s a p q = opposition_counts s a p q

pub returns-clause-prevent : goal.returns-clause-prevent
returns-clause-prevent c s a p q = prevent_counts s a p q

pub returns-clause-hold : goal.returns-clause-hold
returns-clause-hold c s a q = hold_counts s a q
