use Rattle.std.proofs.Common.{◌-◌, length}
use Rattle.dip_decide_rules.specs.Given.{situation_of, known_of}
use Rattle.dip_decide_rules.specs.Rings.{IsTrail}
use Rattle.dip_decide_rules.specs.Steps.{decisions}
use Rattle.dip_decide.proofs.circles.ring_from.Given as goal

abbrev pub invariant-walk : goal.invariant-walk
invariant-walk l = IsTrail (situation_of l.table) (known_of l.values) l.fn.start l.trail.items l.here

abbrev pub decreases-walk : goal.decreases-walk
decreases-walk l = length (decisions l.table.places.items) - length l.trail.items
