use Rattle.dip_explain_laws.proofs.MoveLemmas.{unbeaten_is}
use Rattle.dip_explain_laws.proofs.VerdictLemmas.{goes_somewhere, told_fails, told_succeeds}
use Rattle.dip_explain_laws.proofs.laws.numbers_decide_moves.Goals as goal

pub returns-clause-goes : goal.returns-clause-goes
returns-clause-goes c steps a line p t m = goes_somewhere steps a line t p m

pub returns-clause-succeeding : goal.returns-clause-succeeding
returns-clause-succeeding c steps a line p q t o y = told_succeeds steps a line t p q o y

pub returns-clause-failing : goal.returns-clause-failing
returns-clause-failing c steps a line p q t o n = told_fails steps a line t p q o n

pub returns-clause-unbeaten : goal.returns-clause-unbeaten
returns-clause-unbeaten c s a p q w h = unbeaten_is s a p q w h
