use Rattle.std.proofs.Common.{◌≡◌, ◌++◌, drop}
use Rattle.dip_map_chart.specs.Levels.{levels_at_start}
use Rattle.dip_map_chart.proofs.search.start.Given as goal

abbrev pub invariant-loop-home : goal.invariant-loop-home
invariant-loop-home l = l.distances.items ++ levels_at_start (drop l.home-index l.homes) ≡ levels_at_start l.homes
