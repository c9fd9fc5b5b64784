use Rattle.std.proofs.Common.{◌≡◌, ℕ, ◌<◌, get_or, true}
use Rattle.dip_map_chart.specs.Charts.{is_unit}
use Rattle.dip_names.specs.declared.names.Unit.{Unit as AUnit}
use Rattle.dip_map.proofs.checks.are_units_of.Given as goal

abbrev pub invariant-loop-unit : goal.invariant-loop-unit
invariant-loop-unit l = (k : ℕ) (d : AUnit) → k < l.unit-index → is_unit l.map (get_or l.units k d) ≡ true
