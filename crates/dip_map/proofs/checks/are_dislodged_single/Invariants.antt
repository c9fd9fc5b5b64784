use Rattle.std.proofs.Common.{◌≡◌, drop, map}
use Rattle.dip_map_chart.specs.Charts.{are_units_single}
use Rattle.dip_map.proofs.checks.are_dislodged_single.Given as goal

abbrev pub invariant-loop-number : goal.invariant-loop-number
invariant-loop-number l = are_units_single (map (λ d. d.unit) (drop l.number l.units)) ≡ are_units_single (map (λ d. d.unit) l.units)
