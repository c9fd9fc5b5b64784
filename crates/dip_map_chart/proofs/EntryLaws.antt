-- What the checks of a list's entries found: neighbours that are allowed, and nothing that stands twice.
use Rattle.std.proofs.Common.{zero-add, ◌≡◌, ◌≢◌, ℕ, ◌+◌, ◌==◌, ◌&&◌, ◌||◌, Bool, true, false, not, zero, suc, get_or, List, [], ◌∷◌, ◌++◌, refl, ◌∙◌, ap, arith, flat_map}
use Rattle.std.proofs.lemmas.Bool.{and_parts, and_from, false≢true, not-true, or_from, or_parts, not_from_false, eqb-false}
use Rattle.std.proofs.lemmas.List.Folds.{list_any-append}
use Rattle.std.specs.List.{list_any, list_all}
use Rattle.dip_names.specs.declared.names.Place.{Place}
use Rattle.dip_names.specs.declared.names.Unit.{Unit as AUnit}
use Rattle.dip_map_chart.specs.Charts.{Chart, Province, Shore, Realm, no_province, no_shore, no_realm, province, army_next, fleet_next, is_army_next, is_fleet_next, are_provs_single, are_places_single, are_units_single}
use Rattle.dip_names.specs.Kinds.{is_sea}
use Rattle.dip_map_chart.specs.Checks.{may_march, lead_away, rest_is_allowed, is_allowed, has_single_neighbours, is_held_by, are_homes_single, are_openings_single}
use Rattle.dip_map_chart.proofs.Found.{test_or, test_found, place_found}

-- an army's neighbour of a province among these is one that an army may go to
march_rest : (m : Chart) (i : ℕ) (rs : List Province) (k q : ℕ) → rest_is_allowed m i rs ≡ true → list_any (λ x. x == q) (get_or rs k no_province).army ≡ true → may_march m (i + k) q ≡ true
march_rest m i [] k q t h = absurd (false≢true h)
march_rest m i (r ∷ rs) zero q t h =
    let here = (and_parts (list_all (λ x. may_march m i x) r.army) (lead_away i r.shores) (and_parts _ (rest_is_allowed m (i + 1) rs) t).0).0 in
    let e : i + 0 ≡ i = omega arith in
    rw e (test_found (λ x. may_march m i x) r.army q here h)
march_rest m i (r ∷ rs) (suc k) q t h =
    let more = (and_parts _ (rest_is_allowed m (i + 1) rs) t).1 in
    let e : i + suc k ≡ (i + 1) + k = omega arith in
    rw e (march_rest m (i + 1) rs k q more h)

-- a fleet's neighbour of a coast among these provinces' is in another province
sail_rest : (m : Chart) (i : ℕ) (rs : List Province) (k j : ℕ) (b : Place) → rest_is_allowed m i rs ≡ true
    → list_any (λ x. (x.prov == b.prov) && (x.coast == b.coast)) (get_or (get_or rs k no_province).shores j no_shore).next ≡ true → not (b.prov == i + k) ≡ true
sail_rest m i [] k j b t h = absurd (false≢true h)
sail_rest m i (r ∷ rs) zero j b t h =
    let here = (and_parts (list_all (λ x. may_march m i x) r.army) (lead_away i r.shores) (and_parts _ (rest_is_allowed m (i + 1) rs) t).0).1 in
    let e : i + 0 ≡ i = omega arith in
    let next = test_or (λ (s : Shore). list_all (λ x. not (x.prov == i)) s.next) r.shores j no_shore here refl in
    rw e (place_found (λ x. not (x.prov == i)) (get_or r.shores j no_shore).next b next h)
sail_rest m i (r ∷ rs) (suc k) j b t h =
    let more = (and_parts _ (rest_is_allowed m (i + 1) rs) t).1 in
    let e : i + suc k ≡ (i + 1) + k = omega arith in
    rw e (sail_rest m (i + 1) rs k j b more h)

pub army_away_law : (m : Chart) → is_allowed m ≡ true → (p q : ℕ) → is_army_next m p q ≡ true → (q ≢ p) × (is_sea (province m q).terrain ≡ false)
army_away_law m t p q h =
    let z : 0 + p ≡ p = zero-add p in
    let (apart, dry) = and_parts (not (q == p)) (not (is_sea (province m q).terrain)) (rw z at (march_rest m 0 m.provinces p q t h)) in
    (eqb-false q p (not-true (q == p) apart), not-true _ dry)

pub fleet_away_law : (m : Chart) → is_allowed m ≡ true → (a b : Place) → is_fleet_next m a b ≡ true → b.prov ≢ a.prov
fleet_away_law m t a b h =
    let z : 0 + a.prov ≡ a.prov = zero-add a.prov in
    eqb-false b.prov a.prov (not-true (b.prov == a.prov) (rw z at (sail_rest m 0 m.provinces a.prov a.coast b t h)))

pub army_single_law : (m : Chart) → list_all has_single_neighbours m.provinces ≡ true → (p : ℕ) → are_provs_single (army_next m p) ≡ true
army_single_law m t p = (and_parts _ _ (test_or has_single_neighbours m.provinces p no_province t refl)).0

pub fleet_single_law : (m : Chart) → list_all has_single_neighbours m.provinces ≡ true → (a : Place) → are_places_single (fleet_next m a) ≡ true
fleet_single_law m t a =
    let shores = (and_parts _ _ (test_or has_single_neighbours m.provinces a.prov no_province t refl)).1 in
    test_or (λ (s : Shore). are_places_single s.next) (province m a.prov).shores a.coast no_shore shores refl

pub homes_law : (rs : List Realm) → are_homes_single rs ≡ true → (r : ℕ) → are_provs_single (get_or rs r no_realm).home ≡ true
homes_law [] t r = refl
homes_law (x ∷ rs) t zero = (and_parts (are_provs_single x.home) _ (and_parts _ (are_homes_single rs) t).0).0
homes_law (x ∷ rs) t (suc r) = homes_law rs (and_parts _ (are_homes_single rs) t).1 r

-- units of two lists that share no province
joined : (held : ℕ → Bool) (us vs : List AUnit) → ((p : ℕ) → list_any (λ v. v.place.prov == p) vs ≡ held p) → are_units_single us ≡ true → are_units_single vs ≡ true
    → not (list_any (λ u. held u.place.prov) us) ≡ true → are_units_single (us ++ vs) ≡ true
joined held [] vs same own others none = others
joined held (u ∷ us) vs same own others none =
    let (first, more) = and_parts (not (list_any (λ v. v.place.prov == u.place.prov) us)) (are_units_single us) own in
    let (free, rest) = or_parts (held u.place.prov) (list_any (λ x. held x.place.prov) us) (not-true _ none) in
    let apart : list_any (λ v. v.place.prov == u.place.prov) (us ++ vs) ≡ false =
    list_any-append (λ (v : AUnit). v.place.prov == u.place.prov) us vs ∙ or_from _ _ (not-true _ first) (same u.place.prov ∙ free) in
    and_from _ _ (not_from_false _ apart) (joined held us vs same more others (not_from_false _ rest))

-- whether one of the opening's units stands in a province, power by power
pub held_law : (rs : List Realm) (p : ℕ) → list_any (λ u. u.place.prov == p) (flat_map (λ r. r.units) rs) ≡ is_held_by rs p
held_law [] p = refl
held_law (r ∷ rs) p =
    list_any-append (λ (u : AUnit). u.place.prov == p) r.units (flat_map (λ x. x.units) rs)
    ∙ ap (λ (b : Bool). list_any (λ (u : AUnit). u.place.prov == p) r.units || b) (held_law rs p)

pub openings_law : (rs : List Realm) → are_openings_single rs ≡ true → are_units_single (flat_map (λ r. r.units) rs) ≡ true
openings_law [] t = refl
openings_law (r ∷ rs) t =
    let (here, more) = and_parts _ (are_openings_single rs) t in
    let (own, none) = and_parts (are_units_single r.units) _ here in
    joined (is_held_by rs) r.units (flat_map (λ x. x.units) rs) (held_law rs) own (openings_law rs more) none
