-- Lists of which each element holds, and orders that come by place.
use Rattle.std.proofs.Common.{◌≡◌, ℕ, ◌<◌, ◌+◌, ◌==◌, zero, suc, length, get_or, drop, Bool, true, false, cond, List, [], ◌∷◌, map, refl, ap, sym, subst, ◌∙◌, arith}
use Rattle.std.specs.Prelude.{Contains}
use Rattle.std.specs.List.{AllByRecursion, list_all, list_any}
use Rattle.std.proofs.lemmas.Bool.{and_parts, eqb-true}
use Rattle.std.proofs.lemmas.List.{drop_more}
use Rattle.dip_map.specs.Charts.{are_units_single}
use Rattle.dip_orders.specs.Given.{orders_of_power}
use Rattle.dip_orders_placed.specs.Standing.{units_of}
use Rattle.dip_orders_placed.specs.declared.placed.PlacedOrder.{PlacedOrder}
use Rattle.dip_desk_games.specs.ByPlace.{are_by_place, comes_before}

pub all_mapped : {A B : Type 0} (f : A → B) (p : B → Bool) (xs : List A) → list_all (λ x. p (f x)) xs ≡ true → AllByRecursion (λ y. p y ≡ true) (map f xs)
all_mapped f p [] h = tt
all_mapped f p (x ∷ xs) h = let parts = and_parts (p (f x)) (list_all (λ y. p (f y)) xs) h in (parts.0, all_mapped f p xs parts.1)

pub mapped_all : {A B : Type 0} (f : A → B) (p : B → Bool) (xs : List A) → AllByRecursion (λ y. p y ≡ true) (map f xs) → list_all (λ x. p (f x)) xs ≡ true
mapped_all f p [] h = refl
mapped_all f p (x ∷ xs) h = rw (h.0, mapped_all f p xs h.1) refl

pub tested_all : {A : Type 0} (p : A → Bool) (xs : List A) → AllByRecursion (λ x. p x ≡ true) xs → list_all p xs ≡ true
tested_all p [] h = refl
tested_all p (x ∷ xs) h = rw (h.0, tested_all p xs h.1) refl

pub all_tested : {A : Type 0} (p : A → Bool) (xs : List A) → list_all p xs ≡ true → AllByRecursion (λ x. p x ≡ true) xs
all_tested p [] h = tt
all_tested p (x ∷ xs) h = let parts = and_parts (p x) (list_all p xs) h in (parts.0, all_tested p xs parts.1)

-- an element of a list of which each holds
pub among : {A : Type 0} (P : A → Type 0) (xs : List A) (x : A) → AllByRecursion P xs → Contains xs x → P x
among P [] x all (k, low, at) = absurd (omega (arith, low))
among P (y ∷ ys) x all (zero, low, at) = subst P at all.0
among P (y ∷ ys) x all (suc k, low, at) = among P ys x all.1 (k, (omega (arith, low)), at)

-- one element more
pub with_first : {A : Type 0} (P : A → Type 0) (xs : List A) (x : A) (i : ℕ) → i < length xs → x ≡ get_or xs i x → P x → AllByRecursion P (drop (i + 1) xs) → AllByRecursion P (drop i xs)
with_first {A} P xs x i lt is here rest =
    let cut : drop i xs ≡ x ∷ drop (i + 1) xs = drop_more xs i x lt ∙ ap (λ (y : A). y ∷ drop (i + 1) xs) (sym is) in
    subst (AllByRecursion P) (sym cut) (here, rest)

-- a power's later orders are in other provinces
none_there : (power : ℕ) (o : PlacedOrder) (os : List PlacedOrder) → (o.unit.power == power) ≡ true → list_all (comes_before o) os ≡ true
    → list_any (λ v. v.place.prov == o.unit.place.prov) (units_of (orders_of_power power os)) ≡ false
none_there power o [] his before = refl
none_there power o (x ∷ xs) his before = go (x.unit.power == power) refl (none_there power o xs his parts.1)
  where
    parts : (comes_before o x ≡ true) × (list_all (comes_before o) xs ≡ true)
    parts = and_parts (comes_before o x) (list_all (comes_before o) xs) before

    go : (b : Bool) → (x.unit.power == power) ≡ b
        → list_any (λ v. v.place.prov == o.unit.place.prov) (units_of (orders_of_power power xs)) ≡ false
        → list_any (λ v. v.place.prov == o.unit.place.prov) (units_of (cond b (x ∷ orders_of_power power xs) (orders_of_power power xs))) ≡ false
    go true is rest =
        let differ : (x.unit.place.prov == o.unit.place.prov) ≡ false = grind (arith, parts.0, eqb-true o.unit.power power his, eqb-true x.unit.power power is) in
        rw differ rest
    go false is rest = rest

-- orders by place are of units of a power in different provinces
pub apart : (power : ℕ) (os : List PlacedOrder) → are_by_place os ≡ true → are_units_single (units_of (orders_of_power power os)) ≡ true
apart power [] h = refl
apart power (o ∷ os) h = go (o.unit.power == power) refl (apart power os parts.1)
  where
    parts : (list_all (comes_before o) os ≡ true) × (are_by_place os ≡ true)
    parts = and_parts (list_all (comes_before o) os) (are_by_place os) h

    go : (b : Bool) → (o.unit.power == power) ≡ b → are_units_single (units_of (orders_of_power power os)) ≡ true
        → are_units_single (units_of (cond b (o ∷ orders_of_power power os) (orders_of_power power os))) ≡ true
    go true is rest = rw (none_there power o os is parts.0) rest
    go false is rest = rest
