use Rattle.std.proofs.Common.{◌≡◌, ◌++◌, drop, map}
use Rattle.dip_check_papers.specs.Parts.{told_in}
use Rattle.dip_check_papers.proofs.parts.lines_told.Given as goal

abbrev pub invariant-loop-line : goal.invariant-loop-line
invariant-loop-line l =
    map (λ x. x.now) l.told.items ++ told_in (map (λ x. x.now) (drop l.line-index l.lines)) ≡ told_in (map (λ x. x.now) l.lines)
