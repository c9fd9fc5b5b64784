use Rattle.std.proofs.Common.{◌≡◌, ℕ, List, [], ◌∷◌, refl, sym, ◌∙◌, inl, inr}
use Rattle.std.specs.Prelude.{Bool, true, false, not, ◌&&◌, ◌||◌, Option, None, Some}
use Rattle.std.proofs.lemmas.Bool.{cases_Bool, both_ways, or_cases}
use mathlib.Core.Logic.{◌⊎◌}
use Rattle.dip_decide_rules.specs.declared.decisions.Decision.{Decision}
use Rattle.dip_decide_rules.specs.declared.decisions.Decision.TheVariants.{Move, Path, Support}
use Rattle.dip_decide_rules.specs.Deciding.{Assignment, Known, Equation, Mentions, IsCompletion, IsKnot, Step, give, Explains, is_among, is_broken, same}
use Rattle.dip_decide_rules.specs.Deciding.Step.{Forced, Circle, Knot}
use Rattle.dip_decide_rules.specs.Movement.{Situation, rule, mentions, is_decided, at_first, Satisfies, move_rule}
use Rattle.std.specs.Option.{is_some}
use Rattle.dip_decide_rules.proofs.OneAnswer.{same_is, narrower, open_one, next_in, give_open}

-- a knot's paths are open
pub knot_open : (r : Equation) (m : Mentions) (k : Known) (ds : List Decision) → IsKnot r m k ds → (d : Decision) → is_among d ds ≡ true → k d ≡ None
knot_open r m k ds n d h = ((n.exact d).0 h).0.1

-- the final values agree with what is known
pub explains_completes : (r : Equation) (m : Mentions) (a : Assignment) (steps : List Step) (k : Known) → Explains r m k steps a → IsCompletion k a
explains_completes r m a [] k e = λ d v h. let p = e d in cc
explains_completes r m a (Forced d ∷ steps) k e = narrower k (d ∷ []) (a d) (open_one k d e.0.is_open) a (explains_completes r m a steps (give k (d ∷ []) (a d)) e.1)
explains_completes r m a (Circle ds ∷ steps) k e = narrower k ds true e.0.unknown a (explains_completes r m a steps (give k ds true) e.1)
explains_completes r m a (Knot ds ∷ steps) k e = narrower k ds false (knot_open r m k ds e.0) a (explains_completes r m a steps (give k ds false) e.1)

pub given_kept : (k : Known) (ds : List Decision) (b v : Bool) (d : Decision) → k d ≡ Some v → (is_among d ds ≡ true → k d ≡ None) → give k ds b d ≡ Some v
given_kept k ds b v d h o = go (cases_Bool (is_among d ds))
  where
    go : (is_among d ds ≡ true) ⊎ (is_among d ds ≡ false) → give k ds b d ≡ Some v
    go (inr n) = rw n h
    go (inl n) = let p = o n in absurd (cc)

-- what is known isn't broken later
pub known_unbroken : (r : Equation) (m : Mentions) (a : Assignment) (d : Decision) (v : Bool) (steps : List Step) (k : Known) → Explains r m k steps a → k d ≡ Some v → is_broken steps d ≡ false
known_unbroken r m a d v [] k e h = refl
known_unbroken r m a d v (Forced c ∷ steps) k e h = known_unbroken r m a d v steps (give k (c ∷ []) (a c)) e.1 (given_kept k (c ∷ []) (a c) v d h (open_one k c e.0.is_open d))
known_unbroken r m a d v (Circle ds ∷ steps) k e h = known_unbroken r m a d v steps (give k ds true) e.1 (given_kept k ds true v d h (e.0.unknown d))
known_unbroken r m a d v (Knot ds ∷ steps) k e h = go (cases_Bool (is_among d ds)) (known_unbroken r m a d v steps (give k ds false) e.1 (given_kept k ds false v d h (knot_open r m k ds e.0 d)))
  where
    go : (is_among d ds ≡ true) ⊎ (is_among d ds ≡ false) → is_broken steps d ≡ false → (is_among d ds || is_broken steps d) ≡ false
    go (inr n) b = rw (n, b) refl
    go (inl n) b = let p = knot_open r m k ds e.0 d n in absurd (cc)

-- each open decision ends with its rule's value at the final values, but false where it is broken
pub open_satisfied : (r : Equation) (m : Mentions) (a : Assignment) (d : Decision) (steps : List Step) (k : Known) → Explains r m k steps a → k d ≡ None → a d ≡ (not (is_broken steps d) && r d a)
open_satisfied r m a d [] k e o = let p = e d in absurd (cc)
open_satisfied r m a d (Forced c ∷ steps) k e o = go (cases_Bool (is_among d (c ∷ []))) (λ n. open_satisfied r m a d steps (give k (c ∷ []) (a c)) e.1 (give_open k (c ∷ []) (a c) d o n))
  where
    here : same d c ≡ true → a d ≡ (not (is_broken steps d) && r d a)
    here h =
        let p : d ≡ c = same_is d c h in
        let b : is_broken steps d ≡ false = known_unbroken r m a d (a c) steps (give k (c ∷ []) (a c)) e.1 (rw h refl) in
        let q = e.0.value a (explains_completes r m a (Forced c ∷ steps) k e) in
        rw (b, p) (sym q)

    go : (is_among d (c ∷ []) ≡ true) ⊎ (is_among d (c ∷ []) ≡ false) → (is_among d (c ∷ []) ≡ false → a d ≡ (not (is_broken steps d) && r d a)) → a d ≡ (not (is_broken steps d) && r d a)
    go (inr n) f = f n
    go (inl n) _ = one (or_cases _ _ n)
      where
        one : (same d c ≡ true) ⊎ (false ≡ true) → a d ≡ (not (is_broken steps d) && r d a)
        one (inl h) = here h
        one (inr h) = absurd (both_ways false refl h)
open_satisfied r m a d (Circle ds ∷ steps) k e o = go (cases_Bool (is_among d ds)) (λ n. open_satisfied r m a d steps (give k ds true) e.1 (give_open k ds true d o n))
  where
    all : IsCompletion (give k ds true) a
    all = explains_completes r m a steps (give k ds true) e.1

    go : (is_among d ds ≡ true) ⊎ (is_among d ds ≡ false) → (is_among d ds ≡ false → a d ≡ (not (is_broken steps d) && r d a)) → a d ≡ (not (is_broken steps d) && r d a)
    go (inr n) f = f n
    go (inl n) _ =
        let b : is_broken steps d ≡ false = known_unbroken r m a d true steps (give k ds true) e.1 (rw n refl) in
        let x = next_in r k ds d e.0.round n in
        let y : a x.next ≡ true = all x.next true (rw x.inside refl) in
        let z : a d ≡ true = all d true (rw n refl) in
        let w = x.follows.value a (explains_completes r m a (Circle ds ∷ steps) k e) in
        rw b (z ∙ sym (w ∙ y))
open_satisfied r m a d (Knot ds ∷ steps) k e o = go (cases_Bool (is_among d ds)) (λ n. open_satisfied r m a d steps (give k ds false) e.1 (give_open k ds false d o n))
  where
    go : (is_among d ds ≡ true) ⊎ (is_among d ds ≡ false) → (is_among d ds ≡ false → a d ≡ (not (is_broken steps d) && r d a)) → a d ≡ (not (is_among d ds || is_broken steps d) && r d a)
    go (inr n) f = rw n (f n)
    go (inl n) _ = rw n (explains_completes r m a steps (give k ds false) e.1 d false (rw n refl))

-- what isn't decided is false by its rule
pub undecided_false : (s : Situation) (d : Decision) (a : Assignment) → is_decided s d ≡ false → rule s d a ≡ false
undecided_false s (Path p) a h = rw h refl
undecided_false s (Support p) a h = rw h refl
undecided_false s (Move p) a h = go (s.target p) h
  where
    go : (o : Option ℕ) → is_some o ≡ false → move_rule s a p o ≡ false
    go None h = refl
    go (Some q) h = absurd (both_ways true h refl)

-- the values that steps explain satisfy the equations
pub satisfied : (s : Situation) (steps : List Step) (a : Assignment) → Explains (rule s) (mentions s) (at_first s) steps a → Satisfies s (is_broken steps) a
satisfied s steps a e d = go (cases_Bool (is_decided s d))
  where
    go : (is_decided s d ≡ true) ⊎ (is_decided s d ≡ false) → a d ≡ (not (is_broken steps d) && rule s d a)
    go (inl h) = open_satisfied (rule s) (mentions s) a d steps (at_first s) e (rw h refl)
    go (inr h) =
        let p : at_first s d ≡ Some false = rw h refl in
        let b = known_unbroken (rule s) (mentions s) a d false steps (at_first s) e p in
        let q = explains_completes (rule s) (mentions s) a steps (at_first s) e d false p in
        rw (b, undecided_false s d a h) q
