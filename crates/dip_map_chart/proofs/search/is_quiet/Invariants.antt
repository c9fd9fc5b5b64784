use Rattle.std.proofs.Common.{◌≡◌, drop}
use Rattle.dip_map_chart.specs.Walk.{rows_of}
use Rattle.dip_map_chart.specs.Levels.{is_quiet}
use Rattle.dip_map_chart.proofs.search.is_quiet.Given as goal

abbrev pub invariant-loop-vertex : goal.invariant-loop-vertex
invariant-loop-vertex l = is_quiet l.distances l.level l.vertex (rows_of (drop l.vertex l.graph)) ≡ is_quiet l.distances l.level 0 (rows_of l.graph)
