use Rattle.std.proofs.Common.{◌≡◌, drop}
use Rattle.dip_map_chart.specs.Charts.{are_provs_single}
use Rattle.dip_map_chart.proofs.entries.are_provs_single.Given as goal

abbrev pub invariant-loop-number : goal.invariant-loop-number
invariant-loop-number l = are_provs_single (drop l.number l.provs) ≡ are_provs_single l.provs
