use Rattle.dip_map_chart.specs.Walk.{rows_of}
use Rattle.dip_map_chart.specs.Distances.{AreTables}
use Rattle.dip_map_chart.proofs.distances.tables_of.Given as goal

abbrev pub invariant-loop-number : goal.invariant-loop-number
invariant-loop-number l = AreTables l.parts l.kind l.number (rows_of l.tables.items)
