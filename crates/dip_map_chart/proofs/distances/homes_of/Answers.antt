use Rattle.dip_map_chart.proofs.DistanceLaws.{homes_step}
use Rattle.dip_map_chart.proofs.distances.homes_of.Goals as goal

pub loop-vertex-preserved : goal.loop-vertex-preserved
loop-vertex-preserved c =
    rw (c.in_ok-push.ensures.items, c.is_home_at.ensures) (homes_step c.args.parts.now c.args.kind c.args.power _ c.loop-vertex.vertex c.loop-vertex.invariant)
