use Rattle.std.proofs.Common.{◌≡◌, ◌++◌}
use Rattle.std.specs.List.{filter_map}
use Rattle.dip_map.specs.Charts.{powers}
use Rattle.dip_turn_phases.specs.Adjusting.{waiver}
use Rattle.dip_turn_phases.proofs.adjusting.waivers.Given as goal

abbrev pub invariant-loop-power : goal.invariant-loop-power
invariant-loop-power l = l.all.items ++ filter_map (waiver l.map l.board l.pending) l.power-iterator ≡ filter_map (waiver l.map l.board l.pending) (powers l.map)
