-- A map passes each test of its parts.
use Rattle.std.proofs.Common.{◌≡◌, ◌≢◌, ℕ, ◌+◌, ◌<◌, ◌==◌, ◌&&◌, ◌||◌, Bool, true, false, not, suc, get_or, length, List, [], ◌∷◌, ◌++◌, Option, Some, None, refl, ◌∙◌, sym, ap, subst, inl, inr, arith, cond, flat_map, zero-add}
use Rattle.std.proofs.lemmas.Bool.{and_from, and_parts, cases_Bool, eqb-true, eq-eqb, false≢true, le-leb, not-true, not_from_false, or_parts}
use Rattle.std.proofs.lemmas.List.Folds.{list_any-append}
use Rattle.std.proofs.lemmas.Slice.Eq.{bytes_eq-Decides}
use Rattle.std.specs.Cmp.Derive.{both_true}
use Rattle.std.specs.List.{list_any, list_all}
use Rattle.std.specs.Str.{bytes_eq}
use Rattle.dip_names.specs.declared.names.Place.{Place}
use Rattle.dip_names.specs.declared.names.Unit.{Unit as AUnit}
use Rattle.dip_names.specs.declared.names.Kind.TheVariants.{Army}
use Rattle.dip_map_chart.specs.Charts.{Chart, Province, Shore, Realm, IsMap, no_province, no_shore, no_realm, province, is_army_next, is_fleet_next, is_province, is_realm, coast_of, are_provs_single, are_places_single, are_units_single}
use Rattle.dip_map_chart.specs.Checks.{PassesExactly, answers, first_fault, is_within_limits, is_well_formed, rest_has_own_units, rest_of_shores, rest_of_coasts, is_allowed, is_distinct, is_single, is_named_back, rest_is_mutual, are_named_back, rest_of_shores_is_mutual, rest_is_mutual_by_sea, is_mutual, may_march, lead_away, rest_is_allowed, are_names_single, has_single_neighbours, is_home_of, is_held_by, are_homes_single, are_openings_single}
use Rattle.dip_map_chart.proofs.EntryLaws.{held_law}
use Rattle.dip_map_chart.proofs.MapLaws.{map_law}

either_true : (a b : Bool) → b ≡ true → (a || b) ≡ true
either_true true b e = refl
either_true false b e = e

-- a test of each element, from what it says at each index
all_at : {A : Type 0} (f : A → Bool) (xs : List A) (d : A) → ((k : ℕ) → k < length xs → f (get_or xs k d) ≡ true) → list_all f xs ≡ true
all_at f [] d h = refl
all_at f (x ∷ xs) d h = and_from _ _ (h 0 (omega arith)) (all_at f xs d (λ k low. h (suc k) (omega (arith, low))))

-- a test of each element, from what it says of each number that is found among them
all_found : (f : ℕ → Bool) (xs : List ℕ) → ((q : ℕ) → list_any (λ x. x == q) xs ≡ true → f q ≡ true) → list_all f xs ≡ true
all_found f [] h = refl
all_found f (x ∷ xs) h =
    and_from _ _ (h x (ap (λ b. b || list_any (λ y. y == x) xs) (eq-eqb x x refl)))
    (all_found f xs (λ q found. h q (either_true (x == q) (list_any (λ y. y == q) xs) found)))

all_places : (f : Place → Bool) (xs : List Place) → ((q : Place) → list_any (λ x. (x.prov == q.prov) && (x.coast == q.coast)) xs ≡ true → f q ≡ true) → list_all f xs ≡ true
all_places f [] h = refl
all_places f (x ∷ xs) h =
    let own : ((x.prov == x.prov) && (x.coast == x.coast)) ≡ true = both_true (eq-eqb x.prov x.prov refl) (eq-eqb x.coast x.coast refl) in
    and_from _ _ (h x (ap (λ b. b || list_any (λ y. (y.prov == x.prov) && (y.coast == x.coast)) xs) own))
    (all_places f xs (λ q found. h q (either_true _ (list_any (λ y. (y.prov == q.prov) && (y.coast == q.coast)) xs) found)))

-- a test of a list's elements with their numbers
from_each : {A : Type 0} (P : ℕ → A → Bool) (R : ℕ → List A → Bool) → ((i : ℕ) → R i [] ≡ true) → ((i : ℕ) (x : A) (xs : List A) → P i x ≡ true → R (i + 1) xs ≡ true → R i (x ∷ xs) ≡ true)
    → (d : A) (xs : List A) (i : ℕ) → ((k : ℕ) → k < length xs → P (i + k) (get_or xs k d) ≡ true) → R i xs ≡ true
from_each P R none step d [] i h = none i
from_each P R none step d (x ∷ xs) i h =
    let z : i + 0 ≡ i = omega arith in
    let here : P i x ≡ true = subst (λ n. P n x ≡ true) z (h 0 (omega arith)) in
    step i x xs here (from_each P R none step d xs (i + 1) (λ k low.
    let e : i + suc k ≡ (i + 1) + k = omega arith in
    subst (λ n. P n (get_or xs k d) ≡ true) e (h (suc k) (omega (arith, low)))))

-- from the first one on
from_first : {A : Type 0} (P : ℕ → A → Bool) (R : ℕ → List A → Bool) → ((i : ℕ) → R i [] ≡ true) → ((i : ℕ) (x : A) (xs : List A) → P i x ≡ true → R (i + 1) xs ≡ true → R i (x ∷ xs) ≡ true)
    → (d : A) (xs : List A) → ((k : ℕ) → k < length xs → P k (get_or xs k d) ≡ true) → R 0 xs ≡ true
from_first P R none step d xs h = from_each P R none step d xs 0 (λ k low. let z : k ≡ 0 + k = sym (zero-add k) in subst (λ n. P n (get_or xs k d) ≡ true) z (h k low))

limits : (m : Chart) → IsMap m → is_within_limits m ≡ true
limits m ok = and_from _ _ (and_from _ _ (le-leb _ _ ok.realms_least) (le-leb _ _ ok.realms_most)) (and_from _ _ (le-leb _ _ ok.provinces_least) (le-leb _ _ ok.provinces_most))

abbrev no_unit : AUnit
no_unit = record { power = 0; kind = Army; place = record { prov = 0; coast = 0 } }

formed : (m : Chart) → IsMap m → is_well_formed m ≡ true
formed m ok =
    and_from _ _ (all_at is_province m.provinces no_province ok.provinces) (and_from _ _ (all_at (λ r. is_realm m r) m.realms no_realm ok.realms) own)
  where
    own : rest_has_own_units 0 m.realms ≡ true
    own = from_first (λ r (s : Realm). list_all (λ u. u.power == r) s.units) rest_has_own_units (λ i. refl) (λ i x xs here more. and_from _ _ here more) no_realm m.realms
        (λ r low. all_at (λ u. u.power == r) (get_or m.realms r no_realm).units no_unit (λ k there. eq-eqb _ r (ok.units_own r k no_unit there)))

distinct : (m : Chart) → IsMap m → is_distinct m ≡ true
distinct m ok = and_from _ _ ok.codes_ascend (and_from _ _ ok.names_ascend coasts)
  where
    answered : (o : Option ℕ) (k : ℕ) → o ≡ Some k → answers o k ≡ true
    answered o k e = rw e (eq-eqb k k refl)

    shores : (p : ℕ) → rest_of_shores m p 0 (province m p).shores ≡ true
    shores p = from_first (λ k s. answers (coast_of m p s.name) k) (rest_of_shores m p) (λ i. refl) (λ i x xs here more. and_from _ _ here more) no_shore (province m p).shores
        (λ k low. answered _ k (ok.coasts_found (record { prov = p; coast = k }) low))

    coasts : rest_of_coasts m 0 m.provinces ≡ true
    coasts = from_first (λ p (r : Province). rest_of_shores m p 0 r.shores) (rest_of_coasts m) (λ i. refl) (λ i x xs here more. and_from _ _ here more) no_province m.provinces (λ p low. shores p)

allowed : (m : Chart) → IsMap m → is_allowed m ≡ true
allowed m ok = from_first (λ p (r : Province). list_all (λ q. may_march m p q) r.army && lead_away p r.shores) (rest_is_allowed m) (λ i. refl) (λ i x xs here more. and_from _ _ here more) no_province m.provinces
    (λ p low. and_from _ _ (march p) (sail p))
  where
    other : (a b : ℕ) → a ≢ b → not (a == b) ≡ true
    other a b h =
        elim (cases_Bool (a == b)) [
          | inl same ↦ absurd (h (eqb-true a b same))
          | inr apart ↦ not_from_false _ apart
        ]

    march : (p : ℕ) → list_all (λ q. may_march m p q) (province m p).army ≡ true
    march p = all_found (λ q. may_march m p q) (province m p).army (λ q next. let away = ok.army_away p q next in and_from _ _ (other q p away.0) (not_from_false _ away.1))

    sail : (p : ℕ) → lead_away p (province m p).shores ≡ true
    sail p = all_at (λ (s : Shore). list_all (λ b. not (b.prov == p)) s.next) (province m p).shores no_shore
        (λ k low. all_places (λ b. not (b.prov == p)) (get_or (province m p).shores k no_shore).next (λ b next. other b.prov p (ok.fleet_away (record { prov = p; coast = k }) b next)))

each_names_back : (m : Chart) → IsMap m → is_mutual m ≡ true
each_names_back m ok = and_from _ _ land sea
  where
    land : rest_is_mutual m 0 m.provinces ≡ true
    land = from_first (λ p (r : Province). is_named_back m p r.army) (rest_is_mutual m) (λ i. refl) (λ i x xs here more. and_from _ _ here more) no_province m.provinces
        (λ p low. all_found (λ q. is_army_next m q p) (province m p).army (λ q next. ok.army_symmetric p q next))

    coast : (p : ℕ) → rest_of_shores_is_mutual m p 0 (province m p).shores ≡ true
    coast p = from_first (λ k (s : Shore). are_named_back m (record { prov = p; coast = k }) s.next) (rest_of_shores_is_mutual m p) (λ i. refl) (λ i x xs here more. and_from _ _ here more) no_shore (province m p).shores
        (λ k low. all_places (λ b. is_fleet_next m b (record { prov = p; coast = k })) (get_or (province m p).shores k no_shore).next (λ b next. ok.fleet_symmetric (record { prov = p; coast = k }) b next))

    sea : rest_is_mutual_by_sea m 0 m.provinces ≡ true
    sea = from_first (λ p (r : Province). rest_of_shores_is_mutual m p 0 r.shores) (rest_is_mutual_by_sea m) (λ i. refl) (λ i x xs here more. and_from _ _ here more) no_province m.provinces (λ p low. coast p)

-- an element that a test finds
found_at : {A : Type 0} (f : A → Bool) (xs : List A) (d : A) → list_any f xs ≡ true → (k : ℕ) × (k < length xs) × (f (get_or xs k d) ≡ true)
found_at f [] d h = absurd (false≢true h)
found_at f (x ∷ xs) d h =
    elim (cases_Bool (f x)) [
      | inl here ↦ (0, omega arith, here)
      | inr other ↦ let (k, low, is) = found_at f xs d (rw other at h) in (suc k, omega (arith, low), is)
    ]

found_number : (f : ℕ → Bool) (xs : List ℕ) → list_any f xs ≡ true → (q : ℕ) × (list_any (λ x. x == q) xs ≡ true) × (f q ≡ true)
found_number f [] h = absurd (false≢true h)
found_number f (x ∷ xs) h =
    elim (cases_Bool (f x)) [
      | inl here ↦ (x, ap (λ b. b || list_any (λ y. y == x) xs) (eq-eqb x x refl), here)
      | inr other ↦ let (q, among, is) = found_number f xs (rw other at h) in (q, either_true (x == q) _ among, is)
    ]

-- what a test that finds nothing answers
none_found : (b : Bool) → (b ≡ true → ⊥) → not b ≡ true
none_found true h = absurd (h refl)
none_found false h = refl

names_single : (rs : List Province) → ((p q : ℕ) → p < length rs → q < length rs → (get_or rs p no_province).name ≡ (get_or rs q no_province).name → p ≡ q) → are_names_single rs ≡ true
names_single [] h = refl
names_single (r ∷ rs) h =
    and_from _ _ (none_found _ (λ found.
    let (k, low, same) = found_at (λ (t : Province). bytes_eq t.name r.name) rs no_province found in
    let e : 0 ≡ suc k = h 0 (suc k) (omega arith) (omega (arith, low)) (sym ((bytes_eq-Decides (get_or rs k no_province).name r.name).0 same)) in
    omega (arith, e)))
    (names_single rs (λ p q low there same. let e : suc p ≡ suc q = h (suc p) (suc q) (omega (arith, low)) (omega (arith, there)) same in omega (arith, e)))

homes_single : (rs : List Realm) → ((k : ℕ) → are_provs_single (get_or rs k no_realm).home ≡ true)
    → ((p r s : ℕ) → list_any (λ x. x == p) (get_or rs r no_realm).home ≡ true → list_any (λ x. x == p) (get_or rs s no_realm).home ≡ true → r ≡ s) → are_homes_single rs ≡ true
homes_single [] own apart = refl
homes_single (r ∷ rs) own apart =
    and_from _ _ (and_from _ _ (own 0) (none_found _ (λ found.
    let (p, here, other) = found_number (λ q. is_home_of rs q) r.home found in
    let (k, low, there) = found_at (λ (x : Realm). list_any (λ y. y == p) x.home) rs no_realm other in
    let e : 0 ≡ suc k = apart p 0 (suc k) here there in
    omega (arith, e))))
    (homes_single rs (λ k. own (suc k)) (λ p i j a b. let e : suc i ≡ suc j = apart p (suc i) (suc j) a b in omega (arith, e)))

-- units of two lists of which no two stand in one province
record Parted (held : ℕ → Bool) (us vs : List AUnit) : Type 0 where
  pub first : are_units_single us ≡ true
  pub last : are_units_single vs ≡ true
  pub apart : not (list_any (λ u. held u.place.prov) us) ≡ true

parted : (held : ℕ → Bool) (us vs : List AUnit) → ((p : ℕ) → list_any (λ v. v.place.prov == p) vs ≡ held p) → are_units_single (us ++ vs) ≡ true → Parted held us vs
parted held [] vs same h = record { first = refl; last = h; apart = refl }
parted held (u ∷ us) vs same h =
    let (here, more) = and_parts (not (list_any (λ v. v.place.prov == u.place.prov) (us ++ vs))) (are_units_single (us ++ vs)) h in
    let rest = parted held us vs same more in
    let (own, others) = or_parts _ _ (sym (list_any-append (λ (v : AUnit). v.place.prov == u.place.prov) us vs) ∙ not-true _ here) in
    let free : held u.place.prov ≡ false = sym (same u.place.prov) ∙ others in
    record {
      first = and_from _ _ (not_from_false _ own) rest.first;
      last = rest.last;
      apart = not_from_false _ (ap (λ b. b || list_any (λ (x : AUnit). held x.place.prov) us) free ∙ not-true _ rest.apart);
    }

openings_single : (rs : List Realm) → are_units_single (flat_map (λ r. r.units) rs) ≡ true → are_openings_single rs ≡ true
openings_single [] h = refl
openings_single (r ∷ rs) h =
    let both = parted (is_held_by rs) r.units (flat_map (λ x. x.units) rs) (held_law rs) h in
    and_from _ _ (and_from _ _ both.first both.apart) (openings_single rs both.last)

single : (m : Chart) → IsMap m → is_single m ≡ true
single m ok =
    and_from _ _ (names_single m.provinces ok.full_names_apart) (
    and_from _ _ (all_at has_single_neighbours m.provinces no_province (λ p low. and_from _ _ (ok.army_single p) (all_at (λ (s : Shore). are_places_single s.next) (province m p).shores no_shore (λ k there. ok.fleet_single (record { prov = p; coast = k })))))
    (and_from _ _ (homes_single m.realms ok.homes_single ok.homes_apart) (openings_single m.realms ok.openings_single))
    )

-- a map has no fault
pub no_fault : (m : Chart) → IsMap m → first_fault m ≡ None
no_fault m ok = rw (limits m ok, formed m ok, allowed m ok, distinct m ok, single m ok, each_names_back m ok) refl

-- what has no fault passes each test
passed : {A : Type 0} (t : Bool) (e : A) (o : Option A) → cond (not t) (Some e) o ≡ None → (t ≡ true) × (o ≡ None)
passed true e o h = (refl, h)
passed false e o h = absurd (cc)

-- parts have no fault just where they are a map
pub passes_exactly : PassesExactly
passes_exactly m = (to, no_fault m)
  where
    to : first_fault m ≡ None → IsMap m
    to h =
        let (a, h1) = passed (is_within_limits m) _ _ h in
        let (b, h2) = passed (is_well_formed m) _ _ h1 in
        let (c, h3) = passed (is_allowed m) _ _ h2 in
        let (d, h4) = passed (is_distinct m) _ _ h3 in
        let (e, h5) = passed (is_single m) _ _ h4 in
        let (f, h6) = passed (is_mutual m) _ _ h5 in
        map_law m a b c d e f
