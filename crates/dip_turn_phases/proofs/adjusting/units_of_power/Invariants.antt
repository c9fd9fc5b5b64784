use Rattle.std.proofs.Common.{◌≡◌, ◌++◌, ◌==◌, drop, filter}
use Rattle.dip_turn_phases.proofs.adjusting.units_of_power.Given as goal

abbrev pub invariant-loop-unit : goal.invariant-loop-unit
invariant-loop-unit l = l.found.items ++ filter (λ u. u.power == l.power) (drop l.unit-index l.units) ≡ filter (λ u. u.power == l.power) l.units
