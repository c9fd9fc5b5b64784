-- Lists of units: tests of all, of one, and counts.
use Rattle.std.proofs.Common.{◌≡◌, ℕ, ◌⊎◌, inl, inr, zero, suc, List, [], ◌∷◌, map, refl, sym, subst, arith, ◌≤◌}
use Rattle.std.specs.Prelude.{◌==◌, Bool, true, false, ◌&&◌, ◌||◌, cond, Contains, count_by}
use Rattle.std.specs.List.{list_all, list_any}
use Rattle.std.proofs.lemmas.Bool.{and_right, eqb-true, or_cases, or_left, or_right, both_ways, and_parts, and_from, cases_Bool}
use Rattle.std.proofs.lemmas.List.Sums.{sum_by-cons}
use Rattle.dip_decide.specs.Movement.{is_listed}

-- what is false makes a conjunction false
pub and_no : (b : Bool) → (b && false) ≡ false
and_no b = and_right b false refl

-- what holds of each holds of one that is listed
pub all_at : (t : ℕ → Bool) (ps : List ℕ) (p : ℕ) → list_all t ps ≡ true → is_listed ps p ≡ true → t p ≡ true
all_at t [] p h m = absurd (both_ways false refl m)
all_at t (x ∷ ps) p h m = let e = and_parts _ _ h in go (or_cases _ _ m) e.0 (all_at t ps p e.1)
  where
    go : ((x == p) ≡ true) ⊎ (is_listed ps p ≡ true) → t x ≡ true → (is_listed ps p ≡ true → t p ≡ true) → t p ≡ true
    go (inl e) h f = subst (λ (y : ℕ). t y ≡ true) (eqb-true x p e) h
    go (inr e) h f = f e

-- what holds of whichever holds of each
pub all_each : (t : ℕ → Bool) (ps : List ℕ) → ((p : ℕ) → t p ≡ true) → list_all t ps ≡ true
all_each t [] f = refl
all_each t (p ∷ ps) f = and_from _ _ (f p) (all_each t ps f)

-- one that is listed passes
pub any_at : (t : ℕ → Bool) (ps : List ℕ) (p : ℕ) → is_listed ps p ≡ true → t p ≡ true → list_any t ps ≡ true
any_at t [] p m h = m
any_at t (x ∷ ps) p m h = go (or_cases _ _ m) (λ n. any_at t ps p n h)
  where
    go : ((x == p) ≡ true) ⊎ (is_listed ps p ≡ true) → (is_listed ps p ≡ true → list_any t ps ≡ true) → list_any t (x ∷ ps) ≡ true
    go (inl e) _ = or_left _ _ (subst (λ (y : ℕ). t y ≡ true) (sym (eqb-true x p e)) h)
    go (inr n) f = or_right (t x) _ (f n)

-- one of which it doesn't hold
pub one_fails : (t : ℕ → Bool) (ps : List ℕ) → list_all t ps ≡ false → (p : ℕ) × (t p ≡ false)
one_fails t [] h = absurd (both_ways true h refl)
one_fails t (p ∷ ps) h = go (t p) refl h (one_fails t ps)
  where
    go : (b : Bool) → t p ≡ b → (b && list_all t ps) ≡ false → (list_all t ps ≡ false → (p : ℕ) × (t p ≡ false)) → (p : ℕ) × (t p ≡ false)
    go true e k f = f k
    go false e k f = (p, e)

-- one of fewer is one of more
pub contains_more : {A : Type 0} (x : A) (xs : List A) (y : A) → Contains xs y → Contains (x ∷ xs) y
contains_more x xs y (k, low, is) = (suc k, omega arith, is)

-- one that passes
pub one_passes : {A : Type 0} (t : A → Bool) (xs : List A) → list_any t xs ≡ true → (x : A) × Contains xs x × (t x ≡ true)
one_passes t [] h = absurd (both_ways false refl h)
one_passes {A = A} t (x ∷ xs) h = go (t x) refl h (one_passes t xs)
  where
    go : (b : Bool) → t x ≡ b → (b || list_any t xs) ≡ true → (list_any t xs ≡ true → (y : A) × Contains xs y × (t y ≡ true)) → (y : A) × Contains (x ∷ xs) y × (t y ≡ true)
    go true e k f = (x, (zero, omega arith, refl), e)
    go false e k f = let r = f k in (r.0, contains_more x xs r.0 r.1, r.2)

-- among more than one it is the first or one of the others
pub first_or_other : {A : Type 0} (x : A) (xs : List A) (y : A) → Contains (x ∷ xs) y → (x ≡ y) ⊎ Contains xs y
first_or_other x xs y (zero, low, is) = inl is
first_or_other x xs y (suc k, low, is) = inr (k, omega arith, is)

-- counts
pub count_map : {A B : Type 0} (f : B → Bool) (g : A → B) (xs : List A) → count_by f (map g xs) ≡ count_by (λ x. f (g x)) xs
count_map f g [] = refl
count_map f g (x ∷ xs) = rw (sum_by-cons (λ y. cond (f y) 1 0) (g x) (map g xs), sum_by-cons (λ y. cond (f (g y)) 1 0) x xs, count_map f g xs) refl

pub count_alike : {A : Type 0} (f g : A → Bool) (xs : List A) → ((x : A) → Contains xs x → f x ≡ g x) → count_by f xs ≡ count_by g xs
count_alike f g [] h = refl
count_alike f g (x ∷ xs) h = rw (sum_by-cons (λ y. cond (f y) 1 0) x xs, sum_by-cons (λ y. cond (g y) 1 0) x xs, h x (zero, omega arith, refl), count_alike f g xs (λ y c. h y (contains_more x xs y c))) refl

pub count_none : {A : Type 0} (f : A → Bool) (xs : List A) → ((x : A) → f x ≡ false) → count_by f xs ≡ 0
count_none f [] h = refl
count_none f (x ∷ xs) h = rw (sum_by-cons (λ y. cond (f y) 1 0) x xs, h x, count_none f xs h) refl

-- tests that say the same of each
pub all_alike : (f g : ℕ → Bool) (ps : List ℕ) → ((p : ℕ) → f p ≡ g p) → list_all f ps ≡ list_all g ps
all_alike f g [] h = refl
all_alike f g (p ∷ ps) h = rw (h p, all_alike f g ps h) refl

pub any_alike : (f g : ℕ → Bool) (ps : List ℕ) → ((p : ℕ) → f p ≡ g p) → list_any f ps ≡ list_any g ps
any_alike f g [] h = refl
any_alike f g (p ∷ ps) h = rw (h p, any_alike f g ps h) refl

pub any_none : (f : ℕ → Bool) (ps : List ℕ) → ((p : ℕ) → f p ≡ false) → list_any f ps ≡ false
any_none f [] h = refl
any_none f (p ∷ ps) h = rw (h p, any_none f ps h) refl

pub count_fewer : {A : Type 0} (f g : A → Bool) (xs : List A) → ((x : A) → f x ≡ true → g x ≡ true) → count_by f xs ≤ count_by g xs
count_fewer f g [] h = omega arith
count_fewer f g (x ∷ xs) h = go (cases_Bool (f x)) (count_fewer f g xs h)
  where
    go : (f x ≡ true) ⊎ (f x ≡ false) → count_by f xs ≤ count_by g xs → count_by f (x ∷ xs) ≤ count_by g (x ∷ xs)
    go (inl e) l = let i = h x e in rw (sum_by-cons (λ y. cond (f y) 1 0) x xs, sum_by-cons (λ y. cond (g y) 1 0) x xs, e, i) (omega arith)
    go (inr e) l = rw (sum_by-cons (λ y. cond (f y) 1 0) x xs, sum_by-cons (λ y. cond (g y) 1 0) x xs, e) (omega arith)
