use Rattle.std.proofs.Common.{◌≡◌, drop}
use Rattle.dip_map_chart.specs.Checks.{are_openings_single}
use Rattle.dip_map_chart.proofs.entries.are_openings_single.Given as goal

abbrev pub invariant-loop-number : goal.invariant-loop-number
invariant-loop-number l = are_openings_single (drop l.number l.realms) ≡ are_openings_single l.realms
