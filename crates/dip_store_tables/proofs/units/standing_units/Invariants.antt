use Rattle.std.proofs.Common.{◌≡◌, map, take, filter}
use Rattle.dip_store_tables.specs.Boards.{unit_of, stands}
use Rattle.dip_store_tables.proofs.units.standing_units.Given as goal

abbrev pub invariant-loop-row : goal.invariant-loop-row
invariant-loop-row l = l.units.items ≡ map (unit_of l.map) (filter stands (take l.row-index l.rows))
