use Rattle.std.proofs.Common.{◌≡◌, map, take}
use Rattle.dip_desk_state.specs.Rows.{lines}
use Rattle.dip_store_schema.specs.Renewing.{shown_name}
use Rattle.dip_store_schema.proofs.old_rows.names_in.Given as goal

abbrev pub invariant-loop-row : goal.invariant-loop-row
invariant-loop-row l = lines l.names.items ≡ map shown_name (take l.row-index l.rows)
