use Rattle.std.proofs.Common.{◌≡◌, ◌++◌, map, take}
use Rattle.dip_map_chart.proofs.distances.push_provinces_of.Given as goal

abbrev pub invariant-loop-place : goal.invariant-loop-place
invariant-loop-place l = l.row.items ≡ l.initial.row.items ++ map (λ b. b.prov) (take l.place-index l.places)
