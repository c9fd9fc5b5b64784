use Rattle.std.proofs.Common.{◌≡◌, ◌++◌, flat_map}
use Rattle.dip_map.specs.Charts.{powers}
use Rattle.dip_turn_phases.specs.Adjusting.{disorder_of}
use Rattle.dip_turn_phases.proofs.adjusting.disorder.Given as goal

abbrev pub invariant-loop-power : goal.invariant-loop-power
invariant-loop-power l = l.all.items ++ flat_map (disorder_of l.map l.board l.pending) l.power-iterator ≡ flat_map (disorder_of l.map l.board l.pending) (powers l.map)
