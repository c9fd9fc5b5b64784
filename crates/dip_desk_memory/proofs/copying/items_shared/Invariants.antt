use Rattle.std.proofs.Common.{◌≡◌, take}
use Rattle.dip_desk_state.specs.Rows as rows
use Rattle.dip_desk_memory.proofs.copying.items_shared.Given as goal

abbrev pub invariant-loop-item : goal.invariant-loop-item
invariant-loop-item l = rows.items l.shared.items ≡ rows.items (take l.item-index l.items)
