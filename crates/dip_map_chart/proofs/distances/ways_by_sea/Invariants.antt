use Rattle.std.proofs.Common.{◌≡◌, map, take}
use Rattle.dip_map_chart.specs.Charts.{fleet_next}
use Rattle.dip_map_chart.specs.Distances.{vertex}
use Rattle.dip_map_chart.proofs.distances.ways_by_sea.Given as goal

abbrev pub invariant-loop-b : goal.invariant-loop-b
invariant-loop-b l = l.row.items ≡ map (λ b. vertex b) (take l.b-index (fleet_next l.parts l.fn.a))
