use Rattle.std.proofs.Common.{◌≡◌, drop}
use Rattle.dip_map_chart.specs.Charts.{are_units_single}
use Rattle.dip_map_chart.proofs.entries.are_units_single.Given as goal

abbrev pub invariant-loop-number : goal.invariant-loop-number
invariant-loop-number l = are_units_single (drop l.number l.units) ≡ are_units_single l.units
