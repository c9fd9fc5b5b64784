use Rattle.std.proofs.Common.{◌≡◌, ◌++◌, take}
use Rattle.dip_map_chart.proofs.distances.push_provinces.Given as goal

abbrev pub invariant-loop-p : goal.invariant-loop-p
invariant-loop-p l = l.row.items ≡ l.initial.row.items ++ take l.p-index l.provinces
