use Rattle.std.proofs.Common.{◌≡◌, ◌++◌, drop, filter, not}
use Rattle.dip_turn_phases.specs.Adjusting.{is_given}
use Rattle.dip_turn_phases.proofs.adjusting.units_kept.Given as goal

abbrev pub invariant-loop-unit : goal.invariant-loop-unit
invariant-loop-unit l = l.units.items ++ filter (λ u. not (is_given l.pending u)) (drop l.unit-index l.board.units) ≡ filter (λ u. not (is_given l.pending u)) l.board.units
