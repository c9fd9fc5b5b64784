use Rattle.std.proofs.Common.{◌≡◌, ◌++◌, map}
use Rattle.dip_map.specs.Charts.{provs}
use Rattle.dip_store_tables.specs.Boards.{owner_at}
use Rattle.dip_store_tables.proofs.centres.owners.Given as goal

abbrev pub invariant-loop-prov : goal.invariant-loop-prov
invariant-loop-prov l = l.owners.items ++ map (owner_at l.map l.rows) l.prov-iterator ≡ map (owner_at l.map l.rows) (provs l.map)
