-- How many decisions are open.
use Rattle.std.proofs.Common.{◌≡◌, ℕ, ◌≤◌, ◌<◌, List, [], ◌∷◌, refl, subst, arith, inl, inr}
use Rattle.std.specs.Prelude.{Bool, true, false, Option, None, Some, cond}
use Rattle.std.specs.List.{count_by}
use Rattle.std.proofs.lemmas.Bool.{or_cases, cases_Bool, both_ways}
use Rattle.std.proofs.lemmas.List.Sums.{sum_by-cons}
use mathlib.Core.Logic.{◌⊎◌}
use Rattle.dip_decide_rules.specs.declared.decisions.Decision.{Decision}
use Rattle.dip_decide_rules.specs.Deciding.{same, is_among, Known}
use Rattle.dip_decide_rules.specs.Steps.{is_unknown, Grows, Advances}
use Rattle.dip_decide_rules.proofs.OneAnswer.{same_is}
use Rattle.dip_decide_rules.proofs.Rises.{count_le}

pub count_lt : (p q : Decision → Bool) (ds : List Decision) (z : Decision) → ((x : Decision) → p x ≡ true → q x ≡ true) → is_among z ds ≡ true → p z ≡ false → q z ≡ true → count_by p ds < count_by q ds
count_lt p q [] z f h n y = absurd (both_ways false refl h)
count_lt p q (x ∷ ds) z f h n y = go (or_cases _ _ h) (λ m. count_lt p q ds z f m n y)
  where
    le : cond (p x) 1 0 ≤ cond (q x) 1 0
    le = which (cases_Bool (p x))
      where
        which : (p x ≡ true) ⊎ (p x ≡ false) → cond (p x) 1 0 ≤ cond (q x) 1 0
        which (inl e) = rw (e, f x e) (omega arith)
        which (inr e) = rw e (omega arith)

    go : (same z x ≡ true) ⊎ (is_among z ds ≡ true) → (is_among z ds ≡ true → count_by p ds < count_by q ds) → count_by p (x ∷ ds) < count_by q (x ∷ ds)
    go (inl e) _ =
        let l = count_le p q ds f in
        let a : p x ≡ false = subst (λ (v : Decision). p v ≡ false) (same_is z x e) n in
        let b : q x ≡ true = subst (λ (v : Decision). q v ≡ true) (same_is z x e) y in
        rw (sum_by-cons (λ v. cond (p v) 1 0) x ds, sum_by-cons (λ v. cond (q v) 1 0) x ds, a, b) (omega arith)
    go (inr m) g = let l = g m in let w = le in rw (sum_by-cons (λ v. cond (p v) 1 0) x ds, sum_by-cons (λ v. cond (q v) 1 0) x ds) (omega arith)

-- how many of these are open
abbrev pub open_among : Known → List Decision → ℕ
open_among k ds = count_by (λ d. is_unknown (k d)) ds

still : (k l : Known) → Grows k l → (d : Decision) → is_unknown (l d) ≡ true → is_unknown (k d) ≡ true
still k l g d h = go (k d) (g d)
  where
    go : (o : Option Bool) → ((v : Bool) → o ≡ Some v → l d ≡ Some v) → is_unknown o ≡ true
    go None f = refl
    go (Some v) f = absurd (both_ways false refl (rw (f v refl) at h))

-- who advances has fewer open
pub fewer : (ds : List Decision) (k l : Known) → Advances ds k l → open_among l ds < open_among k ds
fewer ds k l a = count_lt (λ d. is_unknown (l d)) (λ d. is_unknown (k d)) ds a.one (still k l a.grows) a.inside (rw a.after refl) (rw a.before refl)
