use Rattle.std.proofs.Common.{◌≡◌, ◌++◌, length, map}
use Rattle.std.specs.Str.{IsUtf8}
use Rattle.dip_letters.specs.Lines.{split_lines}
use Rattle.dip_check_papers.proofs.lines.lines_of.Given as goal

abbrev pub invariant-loop-line : goal.invariant-loop-line
invariant-loop-line l = (map (λ s. s.now) l.lines.items ++ split_lines l.at ≡ split_lines l.text) × IsUtf8 l.at

abbrev pub decreases-loop-line : goal.decreases-loop-line
decreases-loop-line l = length l.at
