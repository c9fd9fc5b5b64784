use Rattle.std.proofs.Common.{◌≡◌, ◌++◌, drop}
use Rattle.dip_map_chart.specs.Walk.{rows_of}
use Rattle.dip_map_chart.specs.Levels.{sweep_from}
use Rattle.dip_map_chart.proofs.search.sweep.Given as goal

abbrev pub invariant-loop-vertex : goal.invariant-loop-vertex
invariant-loop-vertex l =
    l.next.items ++ sweep_from l.distances l.level l.vertex (rows_of (drop l.vertex l.graph)) ≡ sweep_from l.distances l.level 0 (rows_of l.graph)
