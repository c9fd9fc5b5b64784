use Rattle.std.proofs.Common.{◌≡◌, ◌++◌, drop, map, string_bytes}
use Rattle.dip_reports.specs.Texts.{marked_lines}
use Rattle.dip_check_papers.proofs.announcing.push_marked_lines.Given as goal

abbrev pub invariant-loop-line : goal.invariant-loop-line
invariant-loop-line l =
    string_bytes l.out ++ marked_lines (map (λ x. x.now) (drop l.line-index l.lines)) ≡ string_bytes l.initial.out ++ marked_lines (map (λ x. x.now) l.lines)
