use Rattle.std.proofs.Common.{◌≡◌, ◌+◌, drop, map}
use Rattle.dip_check_papers.specs.Differing.{alike}
use Rattle.dip_check_papers.proofs.differences.lines_alike.Given as goal

abbrev pub invariant-loop-number : goal.invariant-loop-number
invariant-loop-number l =
    l.number + alike (map (λ x. x.now) (drop l.number l.lines)) (map (λ x. x.now) (drop l.number l.others)) ≡ alike (map (λ x. x.now) l.lines) (map (λ x. x.now) l.others)
