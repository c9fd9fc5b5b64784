-- Parts that pass each test are a map.
use Rattle.std.proofs.Common.{zero-add, ◌≡◌, ℕ, ◌+◌, ◌<◌, ◌≤◌, ◌==◌, true, zero, suc, get_or, length, List, [], ◌∷◌, refl, ◌∙◌, ap, subst, inl, inr, arith, ◌&&◌, Option, Some, None, flat_map}
use Rattle.std.proofs.lemmas.Bool.{and_parts, false≢true, cases_lt, eqb-true, eq-eqb, lt-ltb, leb-true}
use Rattle.std.proofs.lemmas.List.{get_or_past}
use Rattle.std.proofs.lemmas.List.Folds.{list_any_at, list_all-append}
use Rattle.std.specs.List.{list_any, list_all}
use Rattle.std.specs.Cmp.Derive.{both_true}
use Rattle.dip_names.specs.declared.names.Place.{Place}
use Rattle.dip_names.specs.declared.names.Unit.{Unit as AUnit}
use Rattle.dip_map_chart.specs.Charts.{Chart, Province, Shore, Realm, IsMap, no_province, no_shore, no_realm, province, army_next, fleet_next, is_army_next, is_fleet_next, is_fleet_place, is_province, is_realm, is_unit, opening_units, coast_of}
use Rattle.dip_map_chart.specs.Checks.{answers, is_within_limits, is_well_formed, rest_has_own_units, rest_of_shores, rest_of_coasts, is_allowed, is_distinct, is_single, is_named_back, rest_is_mutual, are_named_back, rest_of_shores_is_mutual, rest_is_mutual_by_sea, is_mutual}
use Rattle.dip_map_chart.proofs.Found.{test_at, test_found, place_found}
use Rattle.dip_map_chart.proofs.KeyLaws.{key_found, full_names_law, homes_centres_law, homes_apart_law}
use Rattle.dip_map_chart.proofs.EntryLaws.{army_single_law, fleet_single_law, homes_law, openings_law, army_away_law, fleet_away_law}

-- a look-up that passes the test answered the number
answers_is : (o : Option ℕ) (k : ℕ) → answers o k ≡ true → o ≡ Some k
answers_is None k h = absurd (false≢true h)
answers_is (Some j) k h = ap (λ (n : ℕ). Some n) (eqb-true j k h)

shores_law : (m : Chart) (p i : ℕ) (ss : List Shore) (k : ℕ) → rest_of_shores m p i ss ≡ true → k < length ss → coast_of m p (get_or ss k no_shore).name ≡ Some (i + k)
shores_law m p i [] k t h = absurd (omega arith)
shores_law m p i (s ∷ ss) zero t h =
    let here = (and_parts (answers (coast_of m p s.name) i) (rest_of_shores m p (i + 1) ss) t).0 in
    let e : i + 0 ≡ i = omega arith in
    rw e (answers_is (coast_of m p s.name) i here)
shores_law m p i (s ∷ ss) (suc k) t h =
    let more = (and_parts (answers (coast_of m p s.name) i) (rest_of_shores m p (i + 1) ss) t).1 in
    let low : k < length ss = omega arith in
    let e : i + suc k ≡ (i + 1) + k = omega arith in
    rw e (shores_law m p (i + 1) ss k more low)

coasts_law : (m : Chart) (i : ℕ) (rs : List Province) (p k : ℕ) → rest_of_coasts m i rs ≡ true → k < length (get_or rs p no_province).shores
    → coast_of m (i + p) (get_or (get_or rs p no_province).shores k no_shore).name ≡ Some k
coasts_law m i [] p k t h = absurd (omega arith)
coasts_law m i (r ∷ rs) zero k t h =
    let here = (and_parts (rest_of_shores m i 0 r.shores) (rest_of_coasts m (i + 1) rs) t).0 in
    let e : i + 0 ≡ i = omega arith in
    let z : 0 + k ≡ k = omega arith in
    rw e (rw z at (shores_law m i 0 r.shores k here h))
coasts_law m i (r ∷ rs) (suc p) k t h =
    let more = (and_parts (rest_of_shores m i 0 r.shores) (rest_of_coasts m (i + 1) rs) t).1 in
    let e : i + suc p ≡ (i + 1) + p = omega arith in
    rw e (coasts_law m (i + 1) rs p k more h)

land_rest : (m : Chart) (i : ℕ) (rs : List Province) (k q : ℕ) → rest_is_mutual m i rs ≡ true → list_any (λ x. x == q) (get_or rs k no_province).army ≡ true → is_army_next m q (i + k) ≡ true
land_rest m i [] k q t h = absurd (false≢true h)
land_rest m i (r ∷ rs) zero q t h =
    let here = (and_parts (is_named_back m i r.army) (rest_is_mutual m (i + 1) rs) t).0 in
    let e : i + 0 ≡ i = omega arith in
    rw e (test_found (λ x. is_army_next m x i) r.army q here h)
land_rest m i (r ∷ rs) (suc k) q t h =
    let more = (and_parts (is_named_back m i r.army) (rest_is_mutual m (i + 1) rs) t).1 in
    let e : i + suc k ≡ (i + 1) + k = omega arith in
    rw e (land_rest m (i + 1) rs k q more h)

land_law : (m : Chart) → rest_is_mutual m 0 m.provinces ≡ true → (p q : ℕ) → is_army_next m p q ≡ true → is_army_next m q p ≡ true
land_law m t p q h = let e : 0 + p ≡ p = omega arith in rw e at (land_rest m 0 m.provinces p q t h)

-- what has a neighbour is a province of the map
inside : (m : Chart) (q p : ℕ) → is_army_next m q p ≡ true → q < length m.provinces
inside m q p h =
    elim (cases_lt q (length m.provinces)) [
      | inl low ↦ low
      | inr past ↦
          let e : army_next m q ≡ [] = ap (λ (r : Province). r.army) (get_or_past m.provinces q no_province past) in
          absurd (false≢true (subst (λ (xs : List ℕ). list_any (λ x. x == p) xs ≡ true) e h))
    ]

within_law : (m : Chart) → rest_is_mutual m 0 m.provinces ≡ true → (p k d : ℕ) → k < length (army_next m p) → get_or (army_next m p) k d < length m.provinces
within_law m t p k d h =
    let q : ℕ = get_or (army_next m p) k d in
    let named : is_army_next m p q ≡ true = list_any_at (λ x. x == q) (army_next m p) k d h (eq-eqb q q refl) in
    inside m q p (land_law m t p q named)

shore_rest : (m : Chart) (p i : ℕ) (ss : List Shore) (j : ℕ) (b : Place) → rest_of_shores_is_mutual m p i ss ≡ true
    → list_any (λ x. (x.prov == b.prov) && (x.coast == b.coast)) (get_or ss j no_shore).next ≡ true → is_fleet_next m b (record { prov = p; coast = i + j }) ≡ true
shore_rest m p i [] j b t h = absurd (false≢true h)
shore_rest m p i (s ∷ ss) zero b t h =
    let here = (and_parts (are_named_back m (record { prov = p; coast = i }) s.next) (rest_of_shores_is_mutual m p (i + 1) ss) t).0 in
    let e : i + 0 ≡ i = omega arith in
    rw e (place_found (λ x. is_fleet_next m x (record { prov = p; coast = i })) s.next b here h)
shore_rest m p i (s ∷ ss) (suc j) b t h =
    let more = (and_parts (are_named_back m (record { prov = p; coast = i }) s.next) (rest_of_shores_is_mutual m p (i + 1) ss) t).1 in
    let e : i + suc j ≡ (i + 1) + j = omega arith in
    rw e (shore_rest m p (i + 1) ss j b more h)

sea_rest : (m : Chart) (i : ℕ) (rs : List Province) (k j : ℕ) (b : Place) → rest_is_mutual_by_sea m i rs ≡ true
    → list_any (λ x. (x.prov == b.prov) && (x.coast == b.coast)) (get_or (get_or rs k no_province).shores j no_shore).next ≡ true → is_fleet_next m b (record { prov = i + k; coast = j }) ≡ true
sea_rest m i [] k j b t h = absurd (false≢true h)
sea_rest m i (r ∷ rs) zero j b t h =
    let here = (and_parts (rest_of_shores_is_mutual m i 0 r.shores) (rest_is_mutual_by_sea m (i + 1) rs) t).0 in
    let e : i + 0 ≡ i = omega arith in
    let z : 0 + j ≡ j = omega arith in
    rw e (rw z at (shore_rest m i 0 r.shores j b here h))
sea_rest m i (r ∷ rs) (suc k) j b t h =
    let more = (and_parts (rest_of_shores_is_mutual m i 0 r.shores) (rest_is_mutual_by_sea m (i + 1) rs) t).1 in
    let e : i + suc k ≡ (i + 1) + k = omega arith in
    rw e (sea_rest m (i + 1) rs k j b more h)

sea_law : (m : Chart) → rest_is_mutual_by_sea m 0 m.provinces ≡ true → (a b : Place) → is_fleet_next m a b ≡ true → is_fleet_next m b a ≡ true
sea_law m t a b h =
    let z : 0 + a.prov ≡ a.prov = omega arith in
    rw z at (sea_rest m 0 m.provinces a.prov a.coast b t h)

-- what has a fleet's neighbour is a place of the map
pub afloat : (m : Chart) (b a : Place) → is_fleet_next m b a ≡ true → is_fleet_place m b ≡ true
afloat m b a h =
    elim (cases_lt b.coast (length (province m b.prov).shores)) [
      | inl low ↦
          elim (cases_lt b.prov (length m.provinces)) [
            | inl on ↦ both_true (lt-ltb _ _ on) (lt-ltb _ _ low)
            | inr past ↦
                let e : (province m b.prov).shores ≡ [] = ap (λ (r : Province). r.shores) (get_or_past m.provinces b.prov no_province past) in
                absurd (omega (arith, ap length e))
          ]
      | inr past ↦
          let e : fleet_next m b ≡ [] = ap (λ (s : Shore). s.next) (get_or_past (province m b.prov).shores b.coast no_shore past) in
          absurd (false≢true (subst (λ (xs : List Place). list_any (λ x. (x.prov == a.prov) && (x.coast == a.coast)) xs ≡ true) e h))
    ]

afloat_law : (m : Chart) → rest_is_mutual_by_sea m 0 m.provinces ≡ true → (a : Place) (k : ℕ) (d : Place) → k < length (fleet_next m a) → is_fleet_place m (get_or (fleet_next m a) k d) ≡ true
afloat_law m t a k d h =
    let b : Place = get_or (fleet_next m a) k d in
    let named : is_fleet_next m a b ≡ true = list_any_at (λ x. (x.prov == b.prov) && (x.coast == b.coast)) (fleet_next m a) k d h (both_true (eq-eqb b.prov b.prov refl) (eq-eqb b.coast b.coast refl)) in
    afloat m b a (sea_law m t a b named)

units_law : (m : Chart) (rs : List Realm) → list_all (λ r. is_realm m r) rs ≡ true → list_all (λ u. is_unit m u) (flat_map (λ r. r.units) rs) ≡ true
units_law m [] t = refl
units_law m (r ∷ rs) t =
    let (here, more) = and_parts (is_realm m r) (list_all (λ x. is_realm m x) rs) t in
    let own = (and_parts _ _ (and_parts _ _ here).1).1 in
    list_all-append (λ u. is_unit m u) r.units (flat_map (λ x. x.units) rs) ∙ both_true own (units_law m rs more)

limits_law : (m : Chart) → is_within_limits m ≡ true → ((1 ≤ length m.realms) × (length m.realms ≤ 7)) × ((1 ≤ length m.provinces) × (length m.provinces ≤ 200))
limits_law m t =
    let (powers, lands) = and_parts _ _ t in
    let (a, b) = and_parts _ _ powers in
    let (c, d) = and_parts _ _ lands in
    ((leb-true _ _ a, leb-true _ _ b), (leb-true _ _ c, leb-true _ _ d))

-- a power's units are its own
own_rest : (i : ℕ) (rs : List Realm) (r : ℕ) → rest_has_own_units i rs ≡ true → list_all (λ u. u.power == i + r) (get_or rs r no_realm).units ≡ true
own_rest i [] r t = refl
own_rest i (s ∷ ss) zero t = let z : i ≡ i + 0 = omega arith in subst (λ n. list_all (λ u. u.power == n) s.units ≡ true) z (and_parts (list_all (λ u. u.power == i) s.units) (rest_has_own_units (i + 1) ss) t).0
own_rest i (s ∷ ss) (suc r) t =
    let more = (and_parts (list_all (λ u. u.power == i) s.units) (rest_has_own_units (i + 1) ss) t).1 in
    let e : (i + 1) + r ≡ i + suc r = omega arith in
    subst (λ n. list_all (λ u. u.power == n) (get_or ss r no_realm).units ≡ true) e (own_rest (i + 1) ss r more)

own_law : (m : Chart) → rest_has_own_units 0 m.realms ≡ true → (r k : ℕ) (d : AUnit) → k < length (get_or m.realms r no_realm).units → (get_or (get_or m.realms r no_realm).units k d).power ≡ r
own_law m t r k d h =
    let own : list_all (λ u. u.power == r) (get_or m.realms r no_realm).units ≡ true = subst (λ n. list_all (λ u. u.power == n) (get_or m.realms r no_realm).units ≡ true) (zero-add r) (own_rest 0 m.realms r t) in
    eqb-true (get_or (get_or m.realms r no_realm).units k d).power r (test_at (λ u. u.power == r) (get_or m.realms r no_realm).units k d own h)

-- each test gives its part of what a map is: limits, forms, allowed neighbours, distinct names, nothing twice, neighbours that name one another
pub map_law : (m : Chart) → is_within_limits m ≡ true → is_well_formed m ≡ true → is_allowed m ≡ true → is_distinct m ≡ true → is_single m ≡ true → is_mutual m ≡ true → IsMap m
map_law m limits formed allowed distinct single back =
    let few = limits_law m limits in
    let (lands, realms_formed) = and_parts _ _ formed in
    let (powers, own) = and_parts (list_all (λ r. is_realm m r) m.realms) (rest_has_own_units 0 m.realms) realms_formed in
    let (codes, names_coasts) = and_parts _ _ distinct in
    let (names, coasts) = and_parts _ _ names_coasts in
    let (land, sea) = and_parts _ _ back in
    let (full_names, entries) = and_parts _ _ single in
    let (neighbours, rest) = and_parts _ _ entries in
    let (homes, openings) = and_parts _ _ rest in
    record {
      realms_least = few.0.0;
      realms_most = few.0.1;
      provinces_least = few.1.0;
      provinces_most = few.1.1;
      provinces = λ p h. test_at is_province m.provinces p no_province lands h;
      realms = λ r h. test_at (λ x. is_realm m x) m.realms r no_realm powers h;
      codes_ascend = codes;
      names_ascend = names;
      full_names_apart = full_names_law m.provinces full_names;
      codes_found = λ p h. key_found (λ r. r.code) m.provinces p no_province codes h;
      names_found = λ r h. key_found (λ r. r.name) m.realms r no_realm names h;
      coasts_found = λ a h. let z : 0 + a.prov ≡ a.prov = zero-add a.prov in rw z at (coasts_law m 0 m.provinces a.prov a.coast coasts h);
      army_symmetric = land_law m land;
      army_within = within_law m land;
      army_single = army_single_law m neighbours;
      army_away = army_away_law m allowed;
      fleet_symmetric = sea_law m sea;
      fleet_within = afloat_law m sea;
      fleet_single = fleet_single_law m neighbours;
      fleet_away = fleet_away_law m allowed;
      homes_centres = homes_centres_law m powers;
      homes_single = homes_law m.realms homes;
      homes_apart = homes_apart_law m.realms homes;
      units = λ k d h. test_at (λ u. is_unit m u) (opening_units m) k d (units_law m m.realms powers) h;
      units_own = own_law m own;
      openings_single = openings_law m.realms openings;
    }
