use Rattle.std.proofs.Common.{◌≡◌, ◌++◌, string_bytes}
use Rattle.dip_letters.specs.Views.{texts_in}
use Rattle.dip_reports.specs.Texts.{marked_lines}
use Rattle.dip_reports.proofs.notices.push_announcement.Given as goal

abbrev pub invariant-loop-line : goal.invariant-loop-line
invariant-loop-line l = string_bytes l.out ++ marked_lines (texts_in l.line-iterator) ≡ string_bytes l.initial.out ++ marked_lines (texts_in l.initial.line-iterator)
