use Rattle.std.proofs.Common.{refl}
use Rattle.dip_explain.specs.Movement.{forced_line, step_line}
use Rattle.dip_explain_laws.proofs.VerdictLemmas.{circle_moves, knot_breaks, verdict}
use Rattle.dip_explain_laws.proofs.laws.verdicts_are_as_told.Goals as goal

pub returns-clause-lines : goal.returns-clause-lines
unfolding step_line forced_line
returns-clause-lines c m orders s a k d = refl

pub returns-clause-matters : goal.returns-clause-matters
returns-clause-matters c m orders s steps a k d e l = record { explained = e; line = l; high = refl }

pub returns-clause-forced : goal.returns-clause-forced
returns-clause-forced c steps a line t = verdict steps a line t

pub returns-clause-circles : goal.returns-clause-circles
returns-clause-circles c s steps a k ps p e l h = circle_moves s steps a k e ps l p h

pub returns-clause-knots : goal.returns-clause-knots
returns-clause-knots c s steps a k ps p e l h = knot_breaks s steps a k e ps l p h
