-- What a search through a list finds.
use Rattle.std.proofs.Common.{◌≡◌, ℕ, ◌<◌, ◌&&◌, Bool, true, suc, length, get_or, List, [], ◌∷◌, refl, sym, subst, inl, inr, arith, nat_lt, Option, Some, None, find, filter, cond, is_some}
use Rattle.std.proofs.lemmas.Bool.{cases_Bool, ltb-true}
use Rattle.std.specs.List.{list_any, position, position_or_len}
use Rattle.std.specs.Option.{unwrap_or}

-- what is there
pub some_is : {A : Type 0} (o : Option A) (d : A) → is_some o ≡ true → o ≡ Some (unwrap_or o d)
some_is None d h = absurd (cc)
some_is (Some x) d h = refl

-- what is found passes the test
pub find_passes : {A : Type 0} (p : A → Bool) (xs : List A) (y : A) → find p xs ≡ Some y → p y ≡ true
find_passes p [] y h = absurd (cc)
find_passes p (x ∷ xs) y h =
    elim (cases_Bool (p x)) [
      | inl yes_here ↦ let is : Some x ≡ Some y = rw yes_here at h in let e : x ≡ y = cc in subst (λ z. p z ≡ true) e yes_here
      | inr other ↦ find_passes p xs y (rw other at h)
    ]

-- what is found is an element
pub find_among : {A : Type 0} (p : A → Bool) (q : A → Bool) (xs : List A) (y : A) → ((k : ℕ) (d : A) → k < length xs → q (get_or xs k d) ≡ true) → find p xs ≡ Some y → q y ≡ true
find_among p q [] y all h = absurd (cc)
find_among p q (x ∷ xs) y all h =
    elim (cases_Bool (p x)) [
      | inl here ↦ let is : Some x ≡ Some y = rw here at h in let e : x ≡ y = cc in subst (λ z. q z ≡ true) e (all 0 x (omega arith))
      | inr other ↦ find_among p q xs y (λ k d low. all (suc k) d (omega arith)) (rw other at h)
    ]

-- a test that what is found passes is passed by an element
pub find_any : {A : Type 0} (p : A → Bool) (q : A → Bool) (xs : List A) (y : A) → q y ≡ true → find p xs ≡ Some y → list_any q xs ≡ true
find_any p q [] y met h = absurd (cc)
find_any p q (x ∷ xs) y met h =
    elim (cases_Bool (p x)) [
      | inl here ↦
          let is : Some x ≡ Some y = rw here at h in
          let e : x ≡ y = cc in
          let first : q x ≡ true = subst (λ z. q z ≡ true) (sym e) met in
          rw first refl
      | inr other ↦ grind (arith, find_any p q xs y met (rw other at h))
    ]

-- the first that passes a test also passes first a narrower one
pub find_narrow : {A : Type 0} (p q : A → Bool) (xs : List A) (y : A) → find p xs ≡ Some y → q y ≡ true → find (λ x. p x && q x) xs ≡ Some y
find_narrow p q [] y h n = absurd (cc)
find_narrow p q (x ∷ xs) y h n =
    elim (cases_Bool (p x)) [
      | inl here ↦
          let is : Some x ≡ Some y = rw here at h in
          let e : x ≡ y = cc in
          let more : q x ≡ true = subst (λ z. q z ≡ true) (sym e) n in
          rw (here, more) is
      | inr other ↦ rw other (find_narrow p q xs y (rw other at h) n)
    ]

-- what is found among those that are kept is found among all
pub find_kept_in : {A : Type 0} (keep p : A → Bool) (xs : List A) (y : A) → find p (filter keep xs) ≡ Some y → find (λ x. keep x && p x) xs ≡ Some y
find_kept_in keep p [] y h = absurd (cc)
find_kept_in keep p (x ∷ xs) y h =
    elim (cases_Bool (keep x)) [
      | inl kept ↦
          elim (cases_Bool (p x)) [
            | inl here ↦ rw (kept, here) (rw (kept, here) at h)
            | inr other ↦ rw (kept, other) (find_kept_in keep p xs y (rw (kept, other) at h))
          ]
      | inr gone ↦ rw gone (find_kept_in keep p xs y (rw gone at h))
    ]

-- a position is one of the list
pub position_low : {A : Type 0} (p : A → Bool) (xs : List A) (i : ℕ) → position p xs ≡ Some i → i < length xs
position_low p xs i h = below (position_or_len p xs) (length xs) i h
  where
    below : (n len i : ℕ) → cond (nat_lt n len) (Some n) None ≡ Some i → i < len
    below n len i h =
        elim (cases_Bool (nat_lt n len)) [
          | inl low ↦ let is : Some n ≡ Some i = rw low at h in let e : n ≡ i = cc in subst (λ z. z < len) e (ltb-true _ _ low)
          | inr past ↦ let none : None ≡ Some i = rw past at h in absurd (cc)
        ]
