use Rattle.std.proofs.Common.{◌≡◌, drop}
use Rattle.dip_decide_rules.specs.Rings.{from_on}
use Rattle.dip_decide.proofs.circles.from_on.Given as goal

abbrev pub invariant-loop-index : goal.invariant-loop-index
invariant-loop-index l = from_on l.p (drop l.index l.trail) ≡ from_on l.p l.trail
