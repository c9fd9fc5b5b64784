-- How many units a board may have, and that an allowance is a small number.
use Rattle.std.proofs.Common.{inl, inr, ◌≡◌, ℕ, ◌<◌, ◌≤◌, ◌==◌, eqb, true, false, zero, suc, get_or, length, map, All, List, [], ◌∷◌, refl, ◌∙◌, arith, not, pos, ◌-ℤ◌, FitsSigned, to_z, of_z, w16}
use Rattle.std.proofs.lemmas.Int.{ints}
use Rattle.std.specs.Prelude.{nat_lt}
use Rattle.std.specs.List.{list_any, IsDistinct, AllByRecursion}
use Rattle.std.proofs.lemmas.Bool.{and_parts, or_parts, or_cases, eqb-true, ltb-true, not-true}
use Rattle.std.proofs.lemmas.List.{length-map}
use Rattle.std.proofs.lemmas.List.Sums.{count_by-le-length}
use Rattle.std.proofs.lemmas.Map.Steps.{length-le_from_distinct_below}
use Rattle.dip_names.specs.declared.names.Unit.{Unit as AUnit}
use Rattle.dip_names.specs.declared.names.Kind.{Kind}
use Rattle.dip_names.specs.declared.names.Kind.TheVariants.{Army, Fleet}
use Rattle.dip_map.specs.declared.boards.Dislodged.{Dislodged}
use Rattle.dip_map.specs.Charts.{Chart, IsMap, is_unit, may_stand, are_provs_single, are_units_single}
use Rattle.dip_map.specs.Boards.{Position, IsOf, is_dislodged, is_power}
use Rattle.dip_orders_placed.specs.Allowances.{builds_due, removals_due}

eqb_sym : (x y : ℕ) → (y == x) ≡ false → (x == y) ≡ false
eqb_sym x y h = grind arith

apart_from : (x : ℕ) (ys : List ℕ) → list_any (λ y. y == x) ys ≡ false → AllByRecursion (λ y. eqb x y ≡ false) ys
apart_from x [] h = tt
apart_from x (y ∷ ys) h =
    let parts = or_parts (y == x) (list_any (λ z. z == x) ys) h in
    (eqb_sym x y parts.0, apart_from x ys parts.1)

pub distinct_from : (xs : List ℕ) → are_provs_single xs ≡ true → IsDistinct eqb xs
unfolding IsDistinct
distinct_from [] h = tt
distinct_from (x ∷ xs) h =
    let parts = and_parts (not (list_any (λ y. y == x) xs)) (are_provs_single xs) h in
    (apart_from x xs (not-true _ parts.0), distinct_from xs parts.1)

below_from : (n : ℕ) (xs : List ℕ) → ((k d : ℕ) → k < length xs → get_or xs k d < n) → (q : ℕ) → list_any (eqb q) xs ≡ true → q < n
below_from n [] low q h = absurd (cc)
below_from n (x ∷ xs) low q h =
    elim (or_cases (eqb q x) (list_any (eqb q) xs) h) [
      | inl here ↦ let same : q ≡ x = eqb-true q x here in let first : x < n = low 0 0 (omega arith) in omega (arith, same, first)
      | inr behind ↦ below_from n xs (λ k d l. low (suc k) d (omega arith)) q behind
    ]

-- numbers below n, none of which stands twice, are at most n
pub numbers_few : (n : ℕ) (xs : List ℕ) → are_provs_single xs ≡ true → All (λ x. x < n) xs → length xs ≤ n
numbers_few n xs single low = length-le_from_distinct_below xs n (distinct_from xs single) (below_from n xs low)

abbrev pub provs_of : List AUnit → List ℕ
provs_of us = map (λ u. u.place.prov) us

held_once : (p : ℕ) (us : List AUnit) → list_any (λ q. q == p) (provs_of us) ≡ list_any (λ v. v.place.prov == p) us
held_once p [] = refl
held_once p (u ∷ us) = rw (held_once p us) refl

pub provs_single : (us : List AUnit) → are_provs_single (provs_of us) ≡ are_units_single us
provs_single [] = refl
provs_single (u ∷ us) = rw (held_once u.place.prov us, provs_single us) refl

stands_below : (m : Chart) (u : AUnit) → is_unit m u ≡ true → u.place.prov < length m.provinces
stands_below m u h = place u.kind (and_parts (nat_lt u.power (length m.realms)) (may_stand m u.kind u.place) h).1
  where
    place : (k : Kind) → may_stand m k u.place ≡ true → u.place.prov < length m.provinces
    place Army is = ltb-true _ _ (and_parts (nat_lt u.place.prov (length m.provinces)) _ is).0
    place Fleet is = ltb-true _ _ (and_parts (nat_lt u.place.prov (length m.provinces)) _ is).0

provs_below : (m : Chart) (us : List AUnit) → All (λ u. is_unit m u ≡ true) us → (k d : ℕ) → k < length (provs_of us) → get_or (provs_of us) k d < length m.provinces
provs_below m [] all k d h = absurd (omega arith)
provs_below m (u ∷ us) all zero d h = stands_below m u (all 0 u (omega arith))
provs_below m (u ∷ us) all (suc k) d h = provs_below m us (λ j e l. all (suc j) e (omega arith)) k d (omega arith)

-- where no two units stand in one province, they are no more than the provinces
pub units_few : (m : Chart) (us : List AUnit) → are_units_single us ≡ true → All (λ u. is_unit m u ≡ true) us → length us ≤ length m.provinces
units_few m us single all =
    let few = numbers_few (length m.provinces) (provs_of us) (provs_single us ∙ single) (provs_below m us all) in
    omega (arith, few, length-map us (λ (u : AUnit). u.place.prov))

dislodged_units : (m : Chart) (ds : List Dislodged) → All (λ d. is_dislodged m d ≡ true) ds → All (λ u. is_unit m u ≡ true) (map (λ d. d.unit) ds)
dislodged_units m [] all k u h = absurd (omega arith)
dislodged_units m (d ∷ ds) all zero u h = (and_parts (is_unit m d.unit) _ (all 0 d (omega arith))).0
dislodged_units m (d ∷ ds) all (suc k) u h = dislodged_units m ds (λ j e l. all (suc j) e (omega arith)) k u (omega arith)

pub dislodged_few : (m : Chart) (ds : List Dislodged) → are_units_single (map (λ d. d.unit) ds) ≡ true → All (λ d. is_dislodged m d ≡ true) ds → length ds ≤ length m.provinces
dislodged_few m ds single all = omega (arith, length-map ds (λ (d : Dislodged). d.unit), units_few m (map (λ d. d.unit) ds) single (dislodged_units m ds all))

-- an allowance is small: at most one build a province, at most two removals
pub builds_few : (m : Chart) (b : Position) (power : ℕ) → IsMap m → IsOf m b → builds_due m b power ≤ 200
builds_few m b power ok of = omega (arith, count_by-le-length (λ o. is_power power o) b.owners, of.owners_count, ok.provinces_most)

pub removals_few : (m : Chart) (b : Position) (power : ℕ) → IsMap m → IsOf m b → removals_due b power ≤ 400
removals_few m b power ok of =
    omega (
      arith,
      ok.provinces_most,
      units_few m b.units of.apart of.units,
      dislodged_few m b.dislodged of.dislodged_apart of.dislodged,
      count_by-le-length (λ u. u.power == power) b.units,
      count_by-le-length (λ d. d.unit.power == power) b.dislodged,
    )

-- such numbers and their difference fit an i16
pub removals_fit : (r : ℕ) → r ≤ 400 → FitsSigned w16 (pos r)
removals_fit r few = omega (arith, ints)

pub difference_fits : (b r : ℕ) → b ≤ 200 → r ≤ 400 → FitsSigned w16 (to_z w16 b -ℤ to_z w16 r)
difference_fits b r builds removals = omega (arith, ints)

pub difference_is : (b r : ℕ) → b ≤ 200 → r ≤ 400 → to_z w16 (of_z w16 (to_z w16 b -ℤ to_z w16 r)) ≡ pos b -ℤ pos r
difference_is b r builds removals = omega (arith, ints)
