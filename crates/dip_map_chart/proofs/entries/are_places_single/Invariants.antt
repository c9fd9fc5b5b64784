use Rattle.std.proofs.Common.{◌≡◌, drop}
use Rattle.dip_map_chart.specs.Charts.{are_places_single}
use Rattle.dip_map_chart.proofs.entries.are_places_single.Given as goal

abbrev pub invariant-loop-number : goal.invariant-loop-number
invariant-loop-number l = are_places_single (drop l.number l.places) ≡ are_places_single l.places
