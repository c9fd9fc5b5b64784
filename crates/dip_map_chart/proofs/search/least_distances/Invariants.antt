use Rattle.dip_map_chart.specs.Walk.{rows_of}
use Rattle.dip_map_chart.proofs.Reach.{IsLevel, unmarked}
use Rattle.dip_map_chart.proofs.search.least_distances.Given as goal

abbrev pub invariant-levels : goal.invariant-levels
invariant-levels l = IsLevel (rows_of l.graph) l.homes l.distances.items l.level

abbrev pub decreases-levels : goal.decreases-levels
decreases-levels l = unmarked l.distances.items
