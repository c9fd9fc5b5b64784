use Rattle.std.proofs.Common.{◌≡◌, drop, map}
use Rattle.dip_check_papers.specs.Parts.{word_after}
use Rattle.dip_check_papers.proofs.words.word_after.Given as goal

abbrev pub invariant-loop-number : goal.invariant-loop-number
invariant-loop-number l = word_after l.name (map (λ x. x.now) (drop l.number l.words)) ≡ word_after l.name (map (λ x. x.now) l.words)
