use Rattle.dip_map_chart.proofs.DistanceLaws.{distances_law}
use Rattle.dip_map_chart.proofs.distances.Distances.of.Goals as goal

pub returns : goal.returns
returns c = distances_law c.args.parts.now _ c.requires c.in_ok-armies.ensures c.in_ok-fleets.ensures
