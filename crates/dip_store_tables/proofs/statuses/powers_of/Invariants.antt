use Rattle.std.proofs.Common.{◌≡◌, map, take}
use Rattle.dip_store_tables.specs.Boards.{power_in}
use Rattle.dip_desk_state.specs.Rows as rows
use Rattle.dip_store_tables.proofs.statuses.powers_of.Given as goal

abbrev pub invariant-loop-name : goal.invariant-loop-name
invariant-loop-name l = l.powers.items ≡ map (power_in l.map) (rows.lines (take l.name-index l.names))
