-- A move by convoy that has an undisturbed chain isn't broken; where nothing is forced and there is no circle, the open paths are the knot.
use Rattle.std.proofs.Common.{◌≡◌, ℕ, List, [], ◌∷◌, refl, inl, inr}
use Rattle.std.specs.Prelude.{true, false, None}
use Rattle.std.proofs.lemmas.Bool.{cases_Bool, both_ways, and_parts, and_from, not-true}
use mathlib.Core.Logic.{◌⊎◌}
use Rattle.dip_decide_rules.specs.declared.decisions.Decision.{Decision}
use Rattle.dip_decide_rules.specs.declared.decisions.Decision.TheVariants.{Path}
use Rattle.dip_decide_rules.specs.Deciding.{is_among, Assignment, Known, IsKnotted, Step, give, Explains, is_broken}
use Rattle.dip_decide_rules.specs.Deciding.Step.{Forced, Circle, Knot}
use Rattle.dip_decide_rules.specs.Laws.{IsChain, AreJoined, is_undisturbed}
use Rattle.dip_decide_rules.specs.Movement.{Situation, IsSituation, goes, is_entered, serves, rule, mentions, at_first}
use Rattle.dip_decide_rules.specs.Results.{AreExplained}
use Rattle.dip_decide_rules.specs.Steps.{IsStarted, NoneForced}
use Rattle.dip_decide_rules.proofs.Chaining.{chain_found}
use Rattle.dip_decide_rules.proofs.FromSteps.{knot_open}
use Rattle.dip_decide_rules.proofs.Progress.{is_at_is, arrives}
use Rattle.dip_decide_rules.proofs.Rises.{any_le}
use Rattle.dip_decide_rules.proofs.Rounds.{NoCircle, knotted}

-- an undisturbed fleet serves, whatever is decided
serves_always : (s : Situation) (a : Assignment) (p x : ℕ) → is_undisturbed s p x ≡ true → serves s a p x ≡ true
serves_always s a p x h = let e = and_parts (s.convoys x p) _ h in and_from _ _ e.0 (rw (quiet (cases_Bool (is_entered s a x))) refl)
  where
    quiet : (is_entered s a x ≡ true) ⊎ (is_entered s a x ≡ false) → is_entered s a x ≡ false
    quiet (inr n) = n
    quiet (inl y) = absurd (both_ways _ (not-true _ (and_parts (s.convoys x p) _ h).1) (any_le _ _ s.places (λ m e. (and_parts (goes s m x) _ e).0) y))

joined_always : (s : Situation) (a : Assignment) (p q r : ℕ) (xs : List ℕ) → AreJoined (is_undisturbed s p) s.next q r xs → AreJoined (serves s a p) s.next q r xs
joined_always s a p q r [] j = j
joined_always s a p q r (x ∷ xs) j = (serves_always s a p x j.0, j.1, joined_always s a p q x xs j.2)

has_path_always : (s : Situation) → IsSituation s → (a : Assignment) (p q : ℕ) (xs : List ℕ) → s.convoyed p ≡ true → goes s p q ≡ true → IsChain (is_undisturbed s p) s.next q p xs → rule s (Path p) a ≡ true
has_path_always s i a p q xs c g j =
    rw (c, is_at_is (s.target p) q g) (chain_found (serves s a p) s.next s.places q (λ x h. i.carrier_listed x p (and_parts (s.convoys x p) _ h).0) p xs (j.0, joined_always s a p q p xs j.1))

unbroken_from : (s : Situation) → IsSituation s → (p q : ℕ) (xs : List ℕ) → s.convoyed p ≡ true → goes s p q ≡ true → IsChain (is_undisturbed s p) s.next q p xs → (a : Assignment) (steps : List Step) (k : Known) → Explains (rule s) (mentions s) k steps a → is_broken steps (Path p) ≡ false
unbroken_from s i p q xs c g j a [] k e = refl
unbroken_from s i p q xs c g j a (Forced d ∷ steps) k e = unbroken_from s i p q xs c g j a steps (give k (d ∷ []) (a d)) e.1
unbroken_from s i p q xs c g j a (Circle ds ∷ steps) k e = unbroken_from s i p q xs c g j a steps (give k ds true) e.1
unbroken_from s i p q xs c g j a (Knot ds ∷ steps) k e = rw (apart (cases_Bool (is_among (Path p) ds))) (unbroken_from s i p q xs c g j a steps (give k ds false) e.1)
  where
    apart : (is_among (Path p) ds ≡ true) ⊎ (is_among (Path p) ds ≡ false) → is_among (Path p) ds ≡ false
    apart (inr n) = n
    apart (inl y) = absurd (e.0.stuck.none_forced (Path p) true (record { is_open = knot_open (rule s) (mentions s) k ds e.0 (Path p) y; value = λ b h. has_path_always s i b p q xs c g j }))

pub unbroken : (s : Situation) → IsSituation s → (p q : ℕ) (xs : List ℕ) → s.convoyed p ≡ true → goes s p q ≡ true → IsChain (is_undisturbed s p) s.next q p xs → (steps : List Step) (a : Assignment) → AreExplained s steps a → is_broken steps (Path p) ≡ false
unbroken s i p q xs c g j steps a e = unbroken_from s i p q xs c g j a steps (at_first s) e

pub some_knotted : (s : Situation) → IsSituation s → (k : Known) → IsStarted s k → NoneForced s k → NoCircle s k → (one : Decision) → k one ≡ None → (d : Decision) × IsKnotted (mentions s) k d
some_knotted s i k z n c one o = let a = arrives s i k z n c one o in (a.path, knotted s i k z n c a.path a.is_open)
