use Rattle.std.proofs.Common.{◌≡◌, drop, map}
use Rattle.dip_check_papers.specs.Shared.{is_named}
use Rattle.dip_check_papers.proofs.drawing.is_named.Given as goal

abbrev pub invariant-loop-word : goal.invariant-loop-word
invariant-loop-word l = is_named l.name (map (λ x. x.now) (drop l.word-index l.words)) ≡ is_named l.name (map (λ x. x.now) l.words)
