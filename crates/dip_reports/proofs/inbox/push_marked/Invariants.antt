use Rattle.std.proofs.Common.{◌≡◌, ◌++◌, drop, string_bytes}
use Rattle.dip_reports.specs.Texts.{marked_lines}
use Rattle.dip_desk_state.specs.Rows as rows
use Rattle.dip_reports.proofs.inbox.push_marked.Given as goal

abbrev pub invariant-loop-line : goal.invariant-loop-line
invariant-loop-line l = string_bytes l.out ++ marked_lines (rows.lines (drop l.line-index l.text)) ≡ string_bytes l.initial.out ++ marked_lines (rows.lines l.text)
