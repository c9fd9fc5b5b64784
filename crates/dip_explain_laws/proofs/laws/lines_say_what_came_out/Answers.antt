use Rattle.std.proofs.Common.{refl}
use Rattle.dip_explain.specs.Movement.{step_line}
use Rattle.dip_explain_laws.proofs.VerdictLemmas.{shows_move, shows_path, shows_support}
use Rattle.dip_explain_laws.proofs.laws.lines_say_what_came_out.Goals as goal

pub returns-clause-moves : goal.returns-clause-moves
returns-clause-moves c steps a line p q t o = shows_move steps a line t p q o

pub returns-clause-supports : goal.returns-clause-supports
returns-clause-supports c steps a line h t m = shows_support steps a line t h m

pub returns-clause-paths : goal.returns-clause-paths
returns-clause-paths c steps a line p t m = shows_path steps a line t p m

pub returns-clause-circles : goal.returns-clause-circles
unfolding step_line
returns-clause-circles c m orders s a k ps = refl

pub returns-clause-knots : goal.returns-clause-knots
unfolding step_line
returns-clause-knots c m orders s a k ps = refl
