use Rattle.std.proofs.Common.{◌≡◌, ◌++◌, map}
use Rattle.dip_map.specs.Boards.{owner_at}
use Rattle.dip_map_chart.specs.Charts.{provs}
use Rattle.dip_map.proofs.boards.owners_of.Given as goal

abbrev pub invariant-loop-prov : goal.invariant-loop-prov
invariant-loop-prov l = l.owners.items ++ map (owner_at l.map) l.prov-iterator ≡ map (owner_at l.map) (provs l.map)
