use Rattle.std.proofs.Common.{◌≡◌, map, take, filter}
use Rattle.dip_store_tables.specs.Boards.{dislodged_of, fell}
use Rattle.dip_store_tables.proofs.units.dislodged_units.Given as goal

abbrev pub invariant-loop-row : goal.invariant-loop-row
invariant-loop-row l = l.dislodged.items ≡ map (dislodged_of l.map) (filter fell (take l.row-index l.rows))
