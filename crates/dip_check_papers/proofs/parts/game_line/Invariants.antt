use Rattle.std.proofs.Common.{◌≡◌, drop, map}
use Rattle.dip_check_papers.specs.Parts.{game_line_in}
use Rattle.dip_check_papers.proofs.parts.game_line.Given as goal

abbrev pub invariant-loop-line : goal.invariant-loop-line
invariant-loop-line l = game_line_in (map (λ x. x.now) (drop l.line-index l.lines)) ≡ game_line_in (map (λ x. x.now) l.lines)
