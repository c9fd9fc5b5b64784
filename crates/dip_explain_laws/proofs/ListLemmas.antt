-- Lists: those that pass a test, how many they are, and that each is listed once.
use Rattle.std.proofs.Common.{◌≡◌, ◌∙◌, ℕ, ◌+◌, List, [], ◌∷◌, filter, length, refl, inl, inr, arith, sym, subst}
use Rattle.std.specs.List.{count_by, list_all, list_any}
use Rattle.std.specs.Prelude.{Bool, true, false, ◌&&◌, cond, ◌==◌}
use Rattle.std.proofs.lemmas.Bool.{cases_Bool, both_ways, and_parts, not-true, or_cases, or_left, or_right, eqb-true, eq-eqb}
use Rattle.std.proofs.lemmas.List.Sums.{sum_by-cons}
use mathlib.Core.Logic.{◌⊎◌}
use Rattle.dip_map.specs.Charts.{are_provs_single}
use Rattle.dip_decide_rules.specs.Movement.{is_listed}
use Rattle.dip_decide_rules.proofs.ChainLaws.{listed_kept}

-- a count is how many a filter keeps
pub counted : (f : ℕ → Bool) (xs : List ℕ) → count_by f xs ≡ length (filter f xs)
counted f [] = refl
counted f (x ∷ xs) = sum_by-cons (λ y. cond (f y) 1 0) x xs ∙ go (f x) (counted f xs)
  where
    go : (b : Bool) → count_by f xs ≡ length (filter f xs) → cond b 1 0 + count_by f xs ≡ length (cond b (x ∷ filter f xs) (filter f xs))
    go true e = omega arith
    go false e = omega arith

-- whoever passes a test that has it listed among all is listed among those that pass just where it passes
pub passing : (t : ℕ → Bool) (places : List ℕ) (h : ℕ) → (t h ≡ true → is_listed places h ≡ true) → is_listed (filter t places) h ≡ t h
passing t places h f = listed_kept t places h ∙ go (t h) f
  where
    go : (b : Bool) → (b ≡ true → is_listed places h ≡ true) → (b && is_listed places h) ≡ b
    go true f = f refl
    go false f = refl

-- whoever a filter keeps passes it
pub kept : (t : ℕ → Bool) (xs : List ℕ) (x : ℕ) → is_listed (filter t xs) x ≡ true → t x ≡ true
kept t xs x h = (and_parts (t x) (is_listed xs x) (sym (listed_kept t xs x) ∙ h)).0

pub apart_from : (t : ℕ → Bool) (xs : List ℕ) (x : ℕ) → is_listed xs x ≡ false → is_listed (filter t xs) x ≡ false
apart_from t xs x n = listed_kept t xs x ∙ rw n (go (t x))
  where
    go : (b : Bool) → (b && false) ≡ false
    go true = refl
    go false = refl

pub kept_single : (t : ℕ → Bool) (xs : List ℕ) → are_provs_single xs ≡ true → are_provs_single (filter t xs) ≡ true
kept_single t [] h = h
kept_single t (x ∷ xs) h = let e = and_parts _ _ h in go (t x) (apart_from t xs x (not-true _ e.0)) (kept_single t xs e.1)
  where
    go : (b : Bool) → is_listed (filter t xs) x ≡ false → are_provs_single (filter t xs) ≡ true → are_provs_single (cond b (x ∷ filter t xs) (filter t xs)) ≡ true
    go true n r = rw (n, r) refl
    go false n r = r

-- what holds of all holds of each that is listed
pub all_at : (f : ℕ → Bool) (xs : List ℕ) (x : ℕ) → list_all f xs ≡ true → is_listed xs x ≡ true → f x ≡ true
all_at f [] x h n = absurd (both_ways false refl n)
all_at f (y ∷ xs) x h n = go (and_parts _ _ h) (or_cases _ _ n) (all_at f xs x)
  where
    go : (f y ≡ true) × (list_all f xs ≡ true) → ((y == x) ≡ true) ⊎ (is_listed xs x ≡ true) → (list_all f xs ≡ true → is_listed xs x ≡ true → f x ≡ true) → f x ≡ true
    go h (inl e) r = subst (λ (z : ℕ). f z ≡ true) (eqb-true y x e) h.0
    go h (inr m) r = r h.1 m

-- what doesn't hold of all fails for one that is listed
pub some_fails : (f : ℕ → Bool) (xs : List ℕ) → list_all f xs ≡ false → (x : ℕ) × (is_listed xs x ≡ true) × (f x ≡ false)
some_fails f [] h = absurd (both_ways true h refl)
some_fails f (y ∷ xs) h = go (cases_Bool (f y)) (some_fails f xs)
  where
    go : (f y ≡ true) ⊎ (f y ≡ false) → (list_all f xs ≡ false → (x : ℕ) × (is_listed xs x ≡ true) × (f x ≡ false)) → (x : ℕ) × (is_listed (y ∷ xs) x ≡ true) × (f x ≡ false)
    go (inr n) r = (y, or_left _ _ (eq-eqb y y refl), n)
    go (inl n) r = let w = r (rw n at h) in (w.0, or_right (y == w.0) _ w.1, w.2)

-- what holds of some holds of one that is listed
pub some_passes : (f : ℕ → Bool) (xs : List ℕ) → list_any f xs ≡ true → (x : ℕ) × (is_listed xs x ≡ true) × (f x ≡ true)
some_passes f [] h = absurd (both_ways false refl h)
some_passes f (y ∷ xs) h = go (or_cases _ _ h) (some_passes f xs)
  where
    go : (f y ≡ true) ⊎ (list_any f xs ≡ true) → (list_any f xs ≡ true → (x : ℕ) × (is_listed xs x ≡ true) × (f x ≡ true)) → (x : ℕ) × (is_listed (y ∷ xs) x ≡ true) × (f x ≡ true)
    go (inl e) r = (y, or_left _ _ (eq-eqb y y refl), e)
    go (inr m) r = let w = r m in (w.0, or_right (y == w.0) _ w.1, w.2)
