use Rattle.std.proofs.Common.{◌≡◌, ◌++◌, drop, filter, not}
use Rattle.dip_turn_phases.specs.Adjusting.{is_among}
use Rattle.dip_turn_phases.proofs.adjusting.without.Given as goal

abbrev pub invariant-loop-unit : goal.invariant-loop-unit
invariant-loop-unit l = l.left.items ++ filter (λ u. not (is_among l.gone u)) (drop l.unit-index l.units) ≡ filter (λ u. not (is_among l.gone u)) l.units
