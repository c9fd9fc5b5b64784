use Rattle.std.proofs.Common.{◌≡◌, map}
use Rattle.std.specs.List.{range_with_len}
use Rattle.dip_map_chart.specs.Distances.{is_home_at}
use Rattle.dip_map_chart.proofs.distances.homes_of.Given as goal

abbrev pub invariant-loop-vertex : goal.invariant-loop-vertex
invariant-loop-vertex l = l.homes.items ≡ map (λ v. is_home_at l.parts l.kind l.power v) (range_with_len 0 l.vertex)
