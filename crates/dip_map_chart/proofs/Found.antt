-- What a test of each element of a list says of one of them.
use Rattle.std.proofs.Common.{◌≡◌, ℕ, ◌<◌, ◌==◌, ◌&&◌, Bool, true, zero, suc, get_or, length, List, [], ◌∷◌, subst, inl, inr, arith}
use Rattle.std.proofs.lemmas.Bool.{and_parts, false≢true, cases_Bool, eqb-true}
use Rattle.std.specs.List.{list_any, list_all}
use Rattle.dip_names.specs.declared.names.Place.{Place}

-- what a test says of each element it says of the one at an index
pub test_at : {A : Type 0} (f : A → Bool) (xs : List A) (k : ℕ) (d : A) → list_all f xs ≡ true → k < length xs → f (get_or xs k d) ≡ true
test_at f [] k d a h = absurd (omega arith)
test_at f (x ∷ xs) zero d a h = (and_parts (f x) (list_all f xs) a).0
test_at f (x ∷ xs) (suc k) d a h = let low : k < length xs = omega arith in test_at f xs k d (and_parts (f x) (list_all f xs) a).1 low

-- what a test says of each element, and of the value that stands for no element, it says of what is found at any index
pub test_or : {A : Type 0} (f : A → Bool) (xs : List A) (k : ℕ) (d : A) → list_all f xs ≡ true → f d ≡ true → f (get_or xs k d) ≡ true
test_or f [] k d a h = h
test_or f (x ∷ xs) zero d a h = (and_parts (f x) (list_all f xs) a).0
test_or f (x ∷ xs) (suc k) d a h = test_or f xs k d (and_parts (f x) (list_all f xs) a).1 h

-- what a test says of each element it says of one that is found
pub test_found : (f : ℕ → Bool) (xs : List ℕ) (q : ℕ) → list_all f xs ≡ true → list_any (λ x. x == q) xs ≡ true → f q ≡ true
test_found f [] q a h = absurd (false≢true h)
test_found f (x ∷ xs) q a h =
    let (here, more) = and_parts (f x) (list_all f xs) a in
    elim (cases_Bool (x == q)) [
      | inl same ↦ subst (λ (n : ℕ). f n ≡ true) (eqb-true x q same) here
      | inr other ↦ test_found f xs q more (rw other at h)
    ]

pub place_eq : (x q : Place) → x.prov ≡ q.prov → x.coast ≡ q.coast → x ≡ q
place_eq x q e f = λ i. record { prov = e i; coast = f i }

-- what a test says of each place it says of one that is found
pub place_found : (f : Place → Bool) (xs : List Place) (q : Place) → list_all f xs ≡ true → list_any (λ x. (x.prov == q.prov) && (x.coast == q.coast)) xs ≡ true → f q ≡ true
place_found f [] q a h = absurd (false≢true h)
place_found f (x ∷ xs) q a h =
    let (here, more) = and_parts (f x) (list_all f xs) a in
    elim (cases_Bool ((x.prov == q.prov) && (x.coast == q.coast))) [
      | inl same ↦
          let (ps, cs) = and_parts (x.prov == q.prov) (x.coast == q.coast) same in
          let e : x ≡ q = place_eq x q (eqb-true x.prov q.prov ps) (eqb-true x.coast q.coast cs) in
          subst (λ (n : Place). f n ≡ true) e here
      | inr other ↦ place_found f xs q more (rw other at h)
    ]
