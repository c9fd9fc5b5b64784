use Rattle.std.proofs.Common.{◌≡◌, map}
use Rattle.std.specs.List.{range_with_len}
use Rattle.dip_map_chart.specs.Walk.{rows_of}
use Rattle.dip_map_chart.specs.Distances.{row}
use Rattle.dip_map_chart.proofs.distances.graph_of.Given as goal

abbrev pub invariant-loop-vertex : goal.invariant-loop-vertex
invariant-loop-vertex l = rows_of l.graph.items ≡ map (λ v. row l.parts l.kind v) (range_with_len 0 l.vertex)
