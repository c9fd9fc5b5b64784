use Rattle.std.proofs.Common.{◌≡◌, ◌++◌, drop, string_bytes}
use Rattle.dip_reports.specs.Texts.{spaced}
use Rattle.dip_desk_state.specs.Rows as rows
use Rattle.dip_reports.proofs.inbox.push_names.Given as goal

abbrev pub invariant-loop-name : goal.invariant-loop-name
invariant-loop-name l = string_bytes l.out ++ spaced (rows.lines (drop l.name-index l.names)) ≡ string_bytes l.initial.out ++ spaced (rows.lines l.names)
