use Rattle.std.proofs.Common.{◌≡◌, ◌++◌, ◌∷◌, ℕ, List, length}
use Rattle.std.specs.Str.{IsUtf8}
use Rattle.dip_letters.specs.Lines.{Lacks}
use Rattle.dip_check_papers.proofs.ToldPapers.{StandsAt}
use Rattle.dip_check_papers.proofs.ticks.after_last_u.Given as goal

abbrev pub invariant-loop-before : goal.invariant-loop-before
invariant-loop-before l =
    ((head tail : List ℕ) → l.paper ≡ head ++ 85 ∷ tail → Lacks 85 tail → StandsAt head tail l.text l.at l.left) × (IsUtf8 l.at × IsUtf8 l.left)

abbrev pub decreases-loop-before : goal.decreases-loop-before
decreases-loop-before l = length l.at
