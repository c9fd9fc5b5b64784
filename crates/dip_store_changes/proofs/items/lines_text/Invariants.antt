use Rattle.std.proofs.Common.{◌≡◌, ◌++◌, drop, string_bytes}
use Rattle.dip_desk_state.specs.Rows as records
use Rattle.dip_store_tables.specs.Texts.{ended}
use Rattle.dip_store_changes.proofs.items.lines_text.Given as goal

abbrev pub invariant-loop-line : goal.invariant-loop-line
invariant-loop-line l = string_bytes l.out ++ ended 10 (records.lines (drop l.line-index l.lines)) ≡ ended 10 (records.lines l.lines)
