use Rattle.std.proofs.Common.{◌≡◌, ◌++◌, ◌+◌, drop, string_bytes}
use Rattle.dip_reports.specs.Texts.{items_text}
use Rattle.dip_desk_state.specs.Rows as rows
use Rattle.dip_reports.proofs.inbox.push_items.Given as goal

abbrev pub invariant-loop-index : goal.invariant-loop-index
invariant-loop-index l = string_bytes l.out ++ items_text (l.first + l.index) (rows.items (drop l.index l.items)) ≡ string_bytes l.initial.out ++ items_text l.first (rows.items l.items)
