use Rattle.std.proofs.Common.{refl}
use Rattle.dip_explain_strengths.specs.StrengthTexts.{attack_text, opposition_text, opposition_word, prevent_text}
use Rattle.dip_explain_laws.proofs.VerdictLemmas.{no_attack_told, no_opposition_told, no_prevent_told}
use Rattle.dip_explain_laws.proofs.laws.numbers_stand_before_their_units.Goals as goal

pub returns-clause-attack : goal.returns-clause-attack
unfolding attack_text
returns-clause-attack c line p q = refl

pub returns-clause-opposition : goal.returns-clause-opposition
unfolding opposition_text opposition_word
returns-clause-opposition c line p q = refl

pub returns-clause-prevent : goal.returns-clause-prevent
unfolding prevent_text
returns-clause-prevent c line q w = refl

pub returns-clause-no_attack : goal.returns-clause-no_attack
returns-clause-no_attack c steps a line p q t o none = no_attack_told steps a line t p q o none

pub returns-clause-no_opposition : goal.returns-clause-no_opposition
returns-clause-no_opposition c steps a line p q t o y none = no_opposition_told steps a line t p q o y none

pub returns-clause-no_prevent : goal.returns-clause-no_prevent
returns-clause-no_prevent c steps a line p q w t o y r none = no_prevent_told steps a line t p q o w y r none
