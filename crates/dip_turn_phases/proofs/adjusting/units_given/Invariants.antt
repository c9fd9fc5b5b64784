use Rattle.std.proofs.Common.{◌≡◌, ◌++◌, drop, filter}
use Rattle.dip_turn_phases.specs.Adjusting.{is_given}
use Rattle.dip_turn_phases.proofs.adjusting.units_given.Given as goal

abbrev pub invariant-loop-unit : goal.invariant-loop-unit
invariant-loop-unit l = l.units.items ++ filter (is_given l.pending) (drop l.unit-index l.board.units) ≡ filter (is_given l.pending) l.board.units
