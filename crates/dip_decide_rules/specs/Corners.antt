-- The completions at which the equation of a decision is least and greatest.
use Rattle.std.specs.Prelude.{◌==◌, Bool, false, not, Option, None, Some, if◌then◌else◌}
use Rattle.dip_decide_rules.specs.declared.decisions.Decision.{Decision}
use Rattle.dip_decide_rules.specs.declared.decisions.Decision.TheVariants.{Move, Path, Support}
use Rattle.dip_decide_rules.specs.declared.corners.Corner.{Corner}
use Rattle.dip_decide_rules.specs.Deciding.{Assignment, Known}
use Rattle.dip_decide_rules.specs.Movement.{Situation, goes}
use Rattle.dip_decide_rules.specs.Given.{situation_of, known_of}

-- the decisions with which the rule of each rises
abbrev pub rises : Situation → Decision → Decision → Bool
rises s (Move p) (Move q) = goes s p q
rises s (Move p) (Path q) = q == p
rises s (Move p) (Support h) = s.supports h p
rises s _ _ = false

-- the completion with the least value, and the greatest
abbrev pub at_corner : (Decision → Bool) → Bool → Decision → Option Bool → Bool
at_corner r b e None = if r e then b else not b
at_corner r b e (Some v) = v

abbrev pub corner : (Decision → Bool) → Known → Bool → Assignment
corner r k b e = at_corner r b e (k e)

-- the values at the corner
abbrev pub values : Corner → Assignment
values c = corner (rises (situation_of c.table.now) c.of.now) (known_of c.known.now) c.high
