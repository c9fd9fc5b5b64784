-- Lists of numbers that ascend: what they list says which they are.
use Rattle.std.proofs.Common.{◌≡◌, ◌<◌, ℕ, List, [], ◌∷◌, refl, sym, ap₂, subst, ◌∙◌, arith, inl, inr}
use Rattle.std.specs.Prelude.{◌==◌, ◌||◌, nat_lt, true, false}
use Rattle.std.specs.List.{list_all}
use Rattle.std.proofs.lemmas.Bool.{and_parts, both_ways, cases_Bool, eq-eqb, eqb-true, ltb-true, or_cases, or_left}
use mathlib.Core.Logic.{◌⊎◌}
use Rattle.dip_map.specs.Boards.{are_ascending}
use Rattle.dip_decide.specs.Movement.{is_listed}

-- where a number is less than all of a list, it is less than each that is listed
above : (x : ℕ) (ys : List ℕ) (p : ℕ) → list_all (λ q. nat_lt x q) ys ≡ true → is_listed ys p ≡ true → x < p
above x [] p a h = absurd (both_ways false refl h)
above x (y ∷ ys) p a h = let parts = and_parts (nat_lt x y) _ a in go (ltb-true x y parts.0) (above x ys p parts.1) (or_cases _ _ h)
  where
    go : x < y → (is_listed ys p ≡ true → x < p) → ((y == p) ≡ true) ⊎ (is_listed ys p ≡ true) → x < p
    go l f (inl e) = let same : y ≡ p = eqb-true y p e in omega (arith, l, same)
    go l f (inr m) = f m

-- and it isn't listed itself
not_above : (x : ℕ) (ys : List ℕ) → list_all (λ q. nat_lt x q) ys ≡ true → is_listed ys x ≡ false
not_above x ys a = go (cases_Bool (is_listed ys x))
  where
    go : (is_listed ys x ≡ true) ⊎ (is_listed ys x ≡ false) → is_listed ys x ≡ false
    go (inl h) = let l : x < x = above x ys x a h in absurd (omega (arith, l))
    go (inr h) = h

here : (x : ℕ) (xs : List ℕ) → is_listed (x ∷ xs) x ≡ true
here x xs = or_left (x == x) _ (eq-eqb x x refl)

-- the first of a list that ascends is at most each that is listed
first_least : (x : ℕ) (xs : List ℕ) (p : ℕ) → list_all (λ q. nat_lt x q) xs ≡ true → is_listed (x ∷ xs) p ≡ true → (x ≡ p) ⊎ (x < p)
first_least x xs p a h = go (or_cases _ _ h)
  where
    go : ((x == p) ≡ true) ⊎ (is_listed xs p ≡ true) → (x ≡ p) ⊎ (x < p)
    go (inl e) = inl (eqb-true x p e)
    go (inr m) = inr (above x xs p a m)

-- two lists that ascend and list the same begin alike
begin_alike : (x y : ℕ) (xs ys : List ℕ) → list_all (λ q. nat_lt x q) xs ≡ true → list_all (λ q. nat_lt y q) ys ≡ true
    → ((p : ℕ) → is_listed (x ∷ xs) p ≡ is_listed (y ∷ ys) p) → x ≡ y
begin_alike x y xs ys a b same = go (first_least x xs y a (same y ∙ here y ys)) (first_least y ys x b (sym (same x) ∙ here x xs))
  where
    go : (x ≡ y) ⊎ (x < y) → (y ≡ x) ⊎ (y < x) → x ≡ y
    go (inl e) d = e
    go (inr l) (inl e) = sym e
    go (inr l) (inr k) = absurd (omega (arith, l, k))

-- and go on alike
go_on_alike : (x : ℕ) (xs ys : List ℕ) → list_all (λ q. nat_lt x q) xs ≡ true → list_all (λ q. nat_lt x q) ys ≡ true
    → ((p : ℕ) → is_listed (x ∷ xs) p ≡ is_listed (x ∷ ys) p) → (p : ℕ) → is_listed xs p ≡ is_listed ys p
go_on_alike x xs ys a b same p = go (cases_Bool (x == p)) (same p)
  where
    go : ((x == p) ≡ true) ⊎ ((x == p) ≡ false) → (x == p || is_listed xs p) ≡ (x == p || is_listed ys p) → is_listed xs p ≡ is_listed ys p
    go (inl e) s = subst (λ (n : ℕ). is_listed xs n ≡ is_listed ys n) (eqb-true x p e) (not_above x xs a ∙ sym (not_above x ys b))
    go (inr e) s = rw e at s

-- two lists that ascend and list the same are one
pub listed_alike : (xs ys : List ℕ) → are_ascending xs ≡ true → are_ascending ys ≡ true → ((p : ℕ) → is_listed xs p ≡ is_listed ys p) → xs ≡ ys
listed_alike [] [] a b same = refl
listed_alike [] (y ∷ ys) a b same = absurd (both_ways false refl (same y ∙ here y ys))
listed_alike (x ∷ xs) [] a b same = absurd (both_ways false refl (sym (same x) ∙ here x xs))
listed_alike (x ∷ xs) (y ∷ ys) a b same = go (begin_alike x y xs ys up.0 upper.0 same) upper.0 same (listed_alike xs ys up.1 upper.1)
  where
    up : (list_all (λ q. nat_lt x q) xs ≡ true) × (are_ascending xs ≡ true)
    up = and_parts _ _ a

    upper : (list_all (λ q. nat_lt y q) ys ≡ true) × (are_ascending ys ≡ true)
    upper = and_parts _ _ b

    go : x ≡ y → list_all (λ q. nat_lt y q) ys ≡ true → ((p : ℕ) → is_listed (x ∷ xs) p ≡ is_listed (y ∷ ys) p)
        → (((p : ℕ) → is_listed xs p ≡ is_listed ys p) → xs ≡ ys) → x ∷ xs ≡ y ∷ ys
    go e least alike rest =
        let others : list_all (λ q. nat_lt x q) ys ≡ true = subst (λ (h : ℕ). list_all (λ q. nat_lt h q) ys ≡ true) (sym e) least in
        let heads : (p : ℕ) → is_listed (x ∷ xs) p ≡ is_listed (x ∷ ys) p = subst (λ (h : ℕ). (p : ℕ) → is_listed (x ∷ xs) p ≡ is_listed (h ∷ ys) p) (sym e) alike in
        ap₂ (λ (h : ℕ) (t : List ℕ). h ∷ t) e (rest (go_on_alike x xs ys up.0 others heads))
