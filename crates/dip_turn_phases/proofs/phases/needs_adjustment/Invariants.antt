use Rattle.std.proofs.Common.{◌≡◌}
use Rattle.std.specs.List.{list_any}
use Rattle.dip_map.specs.Charts.{powers}
use Rattle.dip_turn_phases.specs.Phases.{is_uneven}
use Rattle.dip_turn_phases.proofs.phases.needs_adjustment.Given as goal

abbrev pub invariant-loop-power : goal.invariant-loop-power
invariant-loop-power l = list_any (is_uneven l.map l.board) l.power-iterator ≡ list_any (is_uneven l.map l.board) (powers l.map)
