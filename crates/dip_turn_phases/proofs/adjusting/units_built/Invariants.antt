use Rattle.std.proofs.Common.{◌≡◌, ◌++◌, drop}
use Rattle.dip_turn_phases.specs.Adjusting.{units_built}
use Rattle.dip_turn_phases.proofs.adjusting.units_built.Given as goal

abbrev pub invariant-loop-placed : goal.invariant-loop-placed
invariant-loop-placed l = l.units.items ++ units_built (drop l.placed-index l.pending) ≡ units_built l.pending
