use Rattle.std.proofs.Common.{◌≡◌, drop}
use Rattle.dip_map_chart.specs.Checks.{are_names_single}
use Rattle.dip_map_chart.proofs.entries.are_names_single.Given as goal

abbrev pub invariant-loop-number : goal.invariant-loop-number
invariant-loop-number l = are_names_single (drop l.number l.provinces) ≡ are_names_single l.provinces
