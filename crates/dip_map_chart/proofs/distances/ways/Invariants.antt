use Rattle.std.proofs.Common.{◌≡◌, ◌++◌, map, drop, flat_map}
use Rattle.dip_map_chart.specs.Charts.{province}
use Rattle.dip_map_chart.specs.Walks.{ways}
use Rattle.dip_map_chart.proofs.distances.ways.Given as goal

abbrev pub invariant-loop-shore : goal.invariant-loop-shore
invariant-loop-shore l =
    l.row.items ++ flat_map (λ s. map (λ b. b.prov) s.next) (drop l.shore-index (province l.parts l.fn.p).shores) ≡ ways l.parts l.fn.p
