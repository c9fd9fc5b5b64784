use Rattle.std.proofs.Common.{◌≡◌, take}
use Rattle.dip_turn_papers.specs.Papers.{retreated_lines}
use Rattle.dip_turn_papers.proofs.telling.retreated_lines.Given as goal

abbrev pub invariant-loop-line : goal.invariant-loop-line
invariant-loop-line l = l.made.items ≡ retreated_lines (take l.line-index l.lines)
