use Rattle.dip_map_chart.proofs.DistanceLaws.{graph_step}
use Rattle.dip_map_chart.proofs.distances.graph_of.Goals as goal

pub loop-vertex-preserved : goal.loop-vertex-preserved
loop-vertex-preserved c =
    rw c.in_ok-push.ensures.items (graph_step c.args.parts.now c.args.kind _ c.loop-vertex.vertex _ c.loop-vertex.invariant c.in_ok-row.ensures)
