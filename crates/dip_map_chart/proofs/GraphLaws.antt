-- What the graphs of a map have at a vertex.
use Rattle.std.proofs.Common.{◌≡◌, ℕ, ◌<◌, ◌≤◌, ◌==◌, ◌&&◌, ◌++◌, true, false, get_or, length, map, flat_map, List, [], sym, ◌∙◌, ap, inl, inr, arith, nat_lt}
use Rattle.std.proofs.lemmas.Bool.{and_parts, or_cases, false≢true, cases_lt, eqb-true, leb-true, ltb-true, le-ltb, and_left, false_from_ne_true}
use Rattle.std.proofs.lemmas.List.{get_or_past}
use Rattle.std.proofs.lemmas.List.FromFn.{get_or-map-range_with_len, length-map-range_with_len}
use Rattle.std.proofs.lemmas.Nat.{div-mul-add, mod-mul-add}
use Rattle.std.specs.List.{list_any, list_all}
use Rattle.dip_names.specs.declared.names.Kind.{Kind}
use Rattle.dip_names.specs.declared.names.Kind.TheVariants.{Army, Fleet}
use Rattle.dip_names.specs.declared.names.Place.{Place}
use Rattle.dip_names.specs.declared.names.Terrain.{Terrain}
use Rattle.dip_names.specs.declared.names.Terrain.TheVariants.{Inland, Coast, Sea}
use Rattle.dip_map_chart.specs.Charts.{Chart, Province, Realm, IsMap, no_province, no_shore, no_realm, province, realm, fleet_next, home, is_centre, is_fleet_place, is_shaped, has_one_shore, has_named_shores, is_province, is_code, is_full_name, is_power_name}
use Rattle.dip_map_chart.specs.Walks.{ways}
use Rattle.dip_map_chart.specs.Charts.{is_home}
use Rattle.dip_map_chart.specs.Distances.{vertex, place_at, is_haven, vertices, row, is_home_at, graph, homes}
use Rattle.dip_map_chart.proofs.Found.{test_found, place_eq}

-- at each vertex of the graph, and past them

row_within : (m : Chart) (kind : Kind) (v : ℕ) → v < vertices m kind → get_or (graph m kind) v [] ≡ row m kind v
row_within m kind v low = get_or-map-range_with_len (λ x. row m kind x) 0 (vertices m kind) v v [] low (omega arith)

row_past : (m : Chart) (kind : Kind) (v : ℕ) → vertices m kind ≤ v → get_or (graph m kind) v [] ≡ []
row_past m kind v past =
    get_or_past (graph m kind) v [] (omega (arith, length-map-range_with_len (λ x. row m kind x) 0 (vertices m kind)))

home_within : (m : Chart) (kind : Kind) (r v : ℕ) → v < vertices m kind → get_or (homes m kind r) v false ≡ is_home_at m kind r v
home_within m kind r v low = get_or-map-range_with_len (λ x. is_home_at m kind r x) 0 (vertices m kind) v v false low (omega arith)

home_past : (m : Chart) (kind : Kind) (r v : ℕ) → vertices m kind ≤ v → get_or (homes m kind r) v false ≡ false
home_past m kind r v past =
    get_or_past (homes m kind r) v false (omega (arith, length-map-range_with_len (λ x. is_home_at m kind r x) 0 (vertices m kind)))

-- home centres are provinces of the map, of powers of the map

pub no_power_no_home : (m : Chart) (r p : ℕ) → length m.realms ≤ r → is_home m r p ≡ false
no_power_no_home m r p past =
    ap (λ (x : Realm). list_any (λ y. y == p) x.home) (get_or_past m.realms r no_realm past)

home_is_centre : (m : Chart) (r p : ℕ) → IsMap m → r < length m.realms → is_home m r p ≡ true → is_centre m p ≡ true
home_is_centre m r p ok low h =
    let (_, rest) = and_parts (is_power_name (realm m r).name) _ (ok.realms r low) in
    let (centres, _) = and_parts (list_all (λ x. is_centre m x) (realm m r).home) _ rest in
    test_found (λ x. is_centre m x) (home m r) p centres h

home_within_map : (m : Chart) (r p : ℕ) → IsMap m → length m.provinces ≤ p → is_home m r p ≡ true → ⊥
home_within_map m r p ok past h =
    elim (cases_lt r (length m.realms)) [
      | inl low ↦
          let none : is_centre m p ≡ false = ap (λ (x : Province). x.centre) (get_or_past m.provinces p no_province past) in
          false≢true (sym none ∙ home_is_centre m r p ok low h)
      | inr over ↦ false≢true (sym (no_power_no_home m r p over) ∙ h)
    ]

no_home_past : (m : Chart) (r p : ℕ) → IsMap m → length m.provinces ≤ p → is_home m r p ≡ false
no_home_past m r p ok past = false_from_ne_true (is_home m r p) (home_within_map m r p ok past)

-- the graph of armies

no_ways_past : (m : Chart) (p : ℕ) → length m.provinces ≤ p → ways m p ≡ []
no_ways_past m p past =
    ap (λ (x : Province). x.army ++ flat_map (λ s. map (λ b. b.prov) s.next) x.shores) (get_or_past m.provinces p no_province past)

pub army_row : (m : Chart) (p : ℕ) → get_or (graph m Army) p [] ≡ ways m p
army_row m p =
    elim (cases_lt p (length m.provinces)) [
      | inl low ↦ row_within m Army p low
      | inr past ↦ row_past m Army p past ∙ sym (no_ways_past m p past)
    ]

pub army_home : (m : Chart) (r p : ℕ) → IsMap m → get_or (homes m Army r) p false ≡ is_home m r p
army_home m r p ok =
    elim (cases_lt p (length m.provinces)) [
      | inl low ↦ home_within m Army r p low
      | inr past ↦ home_past m Army r p past ∙ sym (no_home_past m r p ok past)
    ]

-- a province has at most four coasts

shores_most : (t : Terrain) (r : Province) → is_shaped t r ≡ true → length r.shores ≤ 4
shores_most Inland r h = omega (arith, eqb-true (length r.shores) 0 h)
shores_most Coast r h =
    elim (or_cases (has_one_shore r.shores) (has_named_shores r.shores) h) [
      | inl one ↦ omega (arith, eqb-true (length r.shores) 1 (and_parts (length r.shores == 1) _ one).0)
      | inr named ↦ leb-true (length r.shores) 4 (and_parts _ _ (and_parts _ _ named).1).0
    ]
shores_most Sea r h =
    let one = (and_parts (has_one_shore r.shores) _ h).0 in
    omega (arith, eqb-true (length r.shores) 1 (and_parts (length r.shores == 1) _ one).0)

well_shaped : (r : Province) → is_province r ≡ true → is_shaped r.terrain r ≡ true
well_shaped r h =
    let rest = (and_parts (is_code r.code) (is_full_name r.name && is_shaped r.terrain r) h).1 in
    (and_parts (is_full_name r.name) (is_shaped r.terrain r) rest).1

pub few_coasts : (m : Chart) (a : Place) → IsMap m → is_fleet_place m a ≡ true → a.coast < 4
few_coasts m a ok h =
    let (on, shore) = and_parts (nat_lt a.prov (length m.provinces)) (nat_lt a.coast (length (province m a.prov).shores)) h in
    let r : Province = province m a.prov in
    let formed : is_province r ≡ true = ok.provinces a.prov (ltb-true a.prov (length m.provinces) on) in
    let most : length r.shores ≤ 4 = shores_most r.terrain r (well_shaped r formed) in
    omega (arith, ltb-true a.coast (length (province m a.prov).shores) shore)

-- the graph of fleets

place_vertex : (a : Place) → a.coast < 4 → place_at (vertex a) ≡ a
place_vertex a low = place_eq (place_at (vertex a)) a (div-mul-add a.prov 4 a.coast low) (mod-mul-add a.prov 4 a.coast low)

no_next_past : (m : Chart) (a : Place) → length m.provinces ≤ a.prov → fleet_next m a ≡ []
no_next_past m a past =
    ap (λ (x : Province). (get_or x.shores a.coast no_shore).next) (get_or_past m.provinces a.prov no_province past)

no_haven_past : (m : Chart) (r : ℕ) (a : Place) → length m.provinces ≤ a.prov → is_haven m r a ≡ false
no_haven_past m r a past =
    let off : nat_lt a.prov (length m.provinces) ≡ false = le-ltb a.prov (length m.provinces) past in
    and_left (is_fleet_place m a) (is_home m r a.prov) (and_left (nat_lt a.prov (length m.provinces)) _ off)

pub fleet_row : (m : Chart) (a : Place) → a.coast < 4 → get_or (graph m Fleet) (vertex a) [] ≡ map (λ b. vertex b) (fleet_next m a)
fleet_row m a low =
    elim (cases_lt a.prov (length m.provinces)) [
      | inl on ↦ row_within m Fleet (vertex a) (omega arith) ∙ ap (λ (b : Place). map (λ x. vertex x) (fleet_next m b)) (place_vertex a low)
      | inr past ↦ row_past m Fleet (vertex a) (omega arith) ∙ sym (ap (λ (xs : List Place). map (λ x. vertex x) xs) (no_next_past m a past))
    ]

pub fleet_home : (m : Chart) (r : ℕ) (a : Place) → a.coast < 4 → get_or (homes m Fleet r) (vertex a) false ≡ is_haven m r a
fleet_home m r a low =
    elim (cases_lt a.prov (length m.provinces)) [
      | inl on ↦ home_within m Fleet r (vertex a) (omega arith) ∙ ap (λ (b : Place). is_haven m r b) (place_vertex a low)
      | inr past ↦ home_past m Fleet r (vertex a) (omega arith) ∙ sym (no_haven_past m r a past)
    ]
