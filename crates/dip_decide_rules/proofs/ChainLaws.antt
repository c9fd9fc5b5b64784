-- Lists of those that pass.
use Rattle.std.proofs.Common.{◌≡◌, ℕ, List, [], ◌∷◌, refl, subst, Bool, true, false, ◌&&◌, inl, inr, arith}
use Rattle.std.specs.Prelude.{◌==◌, filter}
use Rattle.std.proofs.lemmas.Bool.{cases_Bool, eqb-true}
use mathlib.Core.Logic.{◌⊎◌}
use Rattle.dip_decide_rules.specs.Movement.{is_listed}

-- who is listed among those that pass passes, and is listed
pub listed_kept : (t : ℕ → Bool) (xs : List ℕ) (x : ℕ) → is_listed (filter t xs) x ≡ (t x && is_listed xs x)
listed_kept t [] x = grind arith
listed_kept t (y ∷ xs) x = go (cases_Bool (y == x)) (cases_Bool (t y)) (listed_kept t xs x)
  where
    go : ((y == x) ≡ true) ⊎ ((y == x) ≡ false) → (t y ≡ true) ⊎ (t y ≡ false) → is_listed (filter t xs) x ≡ (t x && is_listed xs x) → is_listed (filter t (y ∷ xs)) x ≡ (t x && is_listed (y ∷ xs) x)
    go (inl e) (inl h) r = let q = eqb-true y x e in let k : t x ≡ true = subst (λ (z : ℕ). t z ≡ true) q h in rw (h, e, k) refl
    go (inl e) (inr h) r = let q = eqb-true y x e in let k : t x ≡ false = subst (λ (z : ℕ). t z ≡ false) q h in rw (h, k, r, k) refl
    go (inr e) (inl h) r = rw (h, e, r) refl
    go (inr e) (inr h) r = rw (h, e, r) refl
