-- Counts over lists.
use Rattle.std.proofs.Common.{◌≡◌, ◌⊎◌, inl, inr, ℕ, ◌<◌, ◌≤◌, ◌+◌, ◌&&◌, Bool, true, false, cond, zero, suc, List, [], ◌∷◌, ◌++◌, eqb, length, map, filter, flat_map, count_by, Contains, refl, sym, ap, ◌∙◌, subst, arith}
use Rattle.std.proofs.lemmas.Bool.{cases_Bool}
use Rattle.std.proofs.lemmas.List.{length-map}
use Rattle.std.proofs.lemmas.List.Elements.{Contains-append_cases, Contains-append_left, Contains-append_right}
use Rattle.std.proofs.lemmas.List.Sums.{sum_by-append}
use Rattle.std.proofs.lemmas.Map.Made.{is_member-Decides, length-le_from_is_member}
use Rattle.std.specs.Cmp.{nat_eq_equiv, unsigned_Decides}
use Rattle.std.specs.List.{list_any, range_with_len}
use Rattle.dip_map.specs.Charts.{are_units_single}
use Rattle.dip_names.specs.declared.names.Unit.{Unit as AUnit}
use Rattle.dip_orders_placed.proofs.AllowanceLaws.{distinct_from, provs_of, provs_single}
use Rattle.dip_orders_placed.proofs.KeptLaws.{count_cons}
use Rattle.dip_orders_placed.proofs.StandingLaws.{made_among}
use Rattle.dip_turn.proofs.SingleLemmas.{behind, first, made_from}

pub count_append : {A : Type 0} (p : A → Bool) (xs ys : List A) → count_by p (xs ++ ys) ≡ count_by p xs + count_by p ys
count_append p xs ys = sum_by-append (λ x. cond (p x) 1 0) xs ys

pub count_map : {A B : Type 0} (p : B → Bool) (f : A → B) (xs : List A) → count_by p (map f xs) ≡ count_by (λ x. p (f x)) xs
count_map p f [] = refl
count_map p f (x ∷ xs) = omega (arith, count_cons p (f x) (map f xs), count_cons (λ y. p (f y)) x xs, count_map p f xs)

-- what an element that passes counts
abbrev pub one_if : Bool → ℕ
one_if c = cond c 1 0

both_one : (c d : Bool) → d ≡ true → one_if (c && d) ≡ one_if c
both_one true d is = ap one_if is
both_one false d is = refl

both_none : (c d : Bool) → d ≡ false → one_if (c && d) ≡ 0
both_none true d is = ap one_if is
both_none false d is = refl

pub count_kept : {A : Type 0} (p q : A → Bool) (xs : List A) → count_by p (filter q xs) ≡ count_by (λ x. p x && q x) xs
count_kept p q [] = refl
count_kept p q (x ∷ xs) = go (q x) refl (count_kept p q xs)
  where
    go : (c : Bool) → q x ≡ c → count_by p (filter q xs) ≡ count_by (λ y. p y && q y) xs → count_by p (cond c (x ∷ filter q xs) (filter q xs)) ≡ count_by (λ y. p y && q y) (x ∷ xs)
    go true is rest = omega (arith, count_cons p x (filter q xs), count_cons (λ y. p y && q y) x xs, both_one (p x) (q x) is, rest)
    go false is rest = omega (arith, count_cons (λ y. p y && q y) x xs, both_none (p x) (q x) is, rest)

-- two tests, one after the other, in either order
pub kept_in_turn : {A : Type 0} (p q : A → Bool) (xs : List A) → filter p (filter q xs) ≡ filter q (filter p xs)
kept_in_turn p q [] = refl
kept_in_turn p q (x ∷ xs) =
    let rest = kept_in_turn p q xs in
    elim (cases_Bool (p x)) [
      | inl one ↦
          elim (cases_Bool (q x)) [
            | inl two ↦ rw (one, two, one) (ap (λ ys. x ∷ ys) rest)
            | inr two ↦ rw (one, two) rest
          ]
      | inr one ↦
          elim (cases_Bool (q x)) [
            | inl two ↦ rw (one, two, one) rest
            | inr two ↦ rw (one, two) rest
          ]
    ]

-- tests that agree on the elements keep the same
pub kept_alike : {A : Type 0} (p q : A → Bool) (xs : List A) → ((x : A) → Contains xs x → p x ≡ q x) → filter p xs ≡ filter q xs
kept_alike p q [] agree = refl
kept_alike p q (x ∷ xs) agree = go (p x) (q x) (agree x (first x xs)) (kept_alike p q xs (λ y among. agree y (behind x xs y among)))
  where
    go : (c d : Bool) → c ≡ d → filter p xs ≡ filter q xs → cond c (x ∷ filter p xs) (filter p xs) ≡ cond d (x ∷ filter q xs) (filter q xs)
    go true true same rest = ap (λ ys. x ∷ ys) rest
    go true false same rest = absurd (cc)
    go false true same rest = absurd (cc)
    go false false same rest = rest

-- what all pass is all kept
pub all_kept : {A : Type 0} (p : A → Bool) (xs : List A) → ((x : A) → Contains xs x → p x ≡ true) → filter p xs ≡ xs
all_kept p [] all = refl
all_kept p (x ∷ xs) all = let here : p x ≡ true = all x (first x xs) in rw here (ap (λ ys. x ∷ ys) (all_kept p xs (λ y among. all y (behind x xs y among))))

-- a list is empty, or has an element
pub some_or_none : {A : Type 0} (xs : List A) → (length xs ≡ 0) ⊎ ((x : A) × Contains xs x)
some_or_none [] = inl refl
some_or_none (x ∷ xs) = inr (x, first x xs)

pub flat_from : {A B : Type 0} (f : A → List B) (xs : List A) (y : B) → Contains (flat_map f xs) y → (x : A) × Contains xs x × Contains (f x) y
flat_from f [] y c = absurd (omega (arith, c.1))
flat_from f (x ∷ xs) y c =
    elim (Contains-append_cases (f x) (flat_map f xs) y c) [
      | inl here ↦ (x, first x xs, here)
      | inr there ↦ let (z, among, at) = flat_from f xs y there in (z, behind x xs z among, at)
    ]

pub flat_among : {A B : Type 0} (f : A → List B) (xs : List A) (x : A) (y : B) → Contains xs x → Contains (f x) y → Contains (flat_map f xs) y
flat_among f [] x y c at = absurd (omega (arith, c.1))
flat_among {B = B} f (z ∷ zs) x y (zero, low, is) at = Contains-append_left (f z) (flat_map f zs) y (subst (λ w. Contains (f w) y) (sym is) at)
flat_among {B = B} f (z ∷ zs) x y (suc k, low, is) at = Contains-append_right (f z) (flat_map f zs) y (flat_among f zs x y (k, (omega (arith, low)), is) at)

pub number_among : (a k i n : ℕ) → i < k → n ≡ a + i → Contains (range_with_len a k) n
number_among a zero i n low is = absurd (omega (arith, low))
number_among a (suc k) zero n low is = (0, (omega (arith)), (omega (arith, is)))
number_among a (suc k) (suc i) n low is = behind a (range_with_len (a + 1) k) n (number_among (a + 1) k i n (omega (arith, low)) (omega (arith, is)))

-- units in different provinces, in each of which one of others is, are no more than those
pub fewer : (us vs : List AUnit) → are_units_single us ≡ true → ((u : AUnit) → Contains us u → (v : AUnit) × Contains vs v × (v.place.prov ≡ u.place.prov)) → length us ≤ length vs
fewer us vs single each =
    let within : (q : ℕ) → list_any (eqb q) (provs_of us) ≡ true → list_any (eqb q) (provs_of vs) ≡ true = λ q mem.
    let (u, among, is) = made_from (λ (w : AUnit). w.place.prov) us q ((is_member-Decides unsigned_Decides (provs_of us) q).0 mem) in
    let (v, there, same) = each u among in
    (is_member-Decides unsigned_Decides (provs_of vs) q).1 (subst (λ (p : ℕ). Contains (provs_of vs) p) (same ∙ is) (made_among (λ (w : AUnit). w.place.prov) vs v there)) in
    let few : length (provs_of us) ≤ length (provs_of vs) = length-le_from_is_member nat_eq_equiv (provs_of us) (provs_of vs) (distinct_from (provs_of us) (provs_single us ∙ single)) within in
    omega (arith, few, length-map us (λ (w : AUnit). w.place.prov), length-map vs (λ (w : AUnit). w.place.prov))
