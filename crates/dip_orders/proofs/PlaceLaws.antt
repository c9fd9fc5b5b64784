-- A place is found again among others of its kind by what is printed of it.
use Rattle.std.proofs.Common.{◌≡◌, ℕ, ◌<◌, ◌≤◌, ◌+◌, ◌==◌, ◌&&◌, ◌||◌, not, Bool, true, false, length, List, [], ◌∷◌, refl, sym, ◌∙◌, ap, inl, inr, arith, nat_le, Some, find, get_or, is_some}
use Rattle.std.proofs.lemmas.Bool.{and_parts, cases_Bool, eqb-true, eq-eqb, le-leb, ltb-true, not-true, false≢true}
use Rattle.std.proofs.lemmas.Slice.Eq.{bytes_eq-Decides}
use Rattle.std.specs.List.{list_all}
use Rattle.std.specs.Option.{unwrap_or}
use Rattle.std.specs.Str.{bytes_eq}
use Rattle.std.specs.Cmp.Derive.{both_true}
use Rattle.dip_names.specs.declared.names.Terrain.{Terrain}
use Rattle.dip_names.specs.declared.names.Terrain.TheVariants.{Inland, Coast, Sea}
use Rattle.dip_names.specs.declared.names.Place.{Place}
use Rattle.dip_map.specs.Charts.{Chart, IsMap, Province, Shore, no_shore, province, shore, coast_of, are_places_single, is_fleet_place, is_shaped, is_coast_name, has_one_shore, has_named_shores}
use Rattle.dip_orders_placed.specs.Retreats.{is_place_among}
use Rattle.dip_orders.specs.Rules.{sail_checks}
use Rattle.dip_orders.specs.Conditions.{first_in, count_in, named_in, no_place, place_in}
use Rattle.dip_orders.specs.declared.faults.OrderFault.{OrderFault}
use Rattle.dip_orders.proofs.CheckLaws.{Hold}
use Rattle.dip_orders_placed.proofs.KeptLaws.{count_cons}
use Rattle.dip_orders.proofs.SpotLaws.{shape_of, test_at, written}

-- two places with one province and one coast are one
pub same_place : (a b : Place) → a.prov ≡ b.prov → a.coast ≡ b.coast → a ≡ b
same_place a b e f = λ i. record { prov = e i; coast = f i }

pub place_itself : (a : Place) → ((a.prov == a.prov) && (a.coast == a.coast)) ≡ true
place_itself a = both_true (eq-eqb a.prov a.prov refl) (eq-eqb a.coast a.coast refl)

among_first : (x : Place) (xs : List Place) → is_place_among x (x ∷ xs) ≡ true
among_first x xs = rw (place_itself x) refl

among_more : (a x : Place) (xs : List Place) → is_place_among a xs ≡ true → is_place_among a (x ∷ xs) ≡ true
among_more a x xs h =
    elim (cases_Bool ((x.prov == a.prov) && (x.coast == a.coast))) [
      | inl here ↦ rw here refl
      | inr other ↦ rw other h
    ]

-- a search whose test only one of the places passes finds it
pub found_one : (test : Place → Bool) (places : List Place) (to : Place) → test to ≡ true → is_place_among to places ≡ true
    → ((a : Place) → is_place_among a places ≡ true → test a ≡ true → a ≡ to) → find test places ≡ Some to
found_one test [] to met among only = absurd (false≢true among)
found_one test (x ∷ xs) to met among only =
    elim (cases_Bool (test x)) [
      | inl here ↦ rw here (ap (λ a. Some a) (only x (among_first x xs) here))
      | inr other ↦
          elim (cases_Bool ((x.prov == to.prov) && (x.coast == to.coast))) [
            | inl is ↦
                let (prov, coast) = and_parts (x.prov == to.prov) (x.coast == to.coast) is in
                let same : x ≡ to = same_place x to (eqb-true _ _ prov) (eqb-true _ _ coast) in
                absurd (false≢true (sym other ∙ (ap test same ∙ met)))
            | inr past ↦ rw other (found_one test xs to met (rw past at among) (λ a there passes. only a (among_more a x xs there) passes))
          ]
    ]

-- where a place is among these, some place is found in its province
first_there : (places : List Place) (to : Place) → is_place_among to places ≡ true → is_some (first_in places to.prov) ≡ true
first_there [] to among = absurd (false≢true among)
first_there (x ∷ xs) to among =
    elim (cases_Bool (x.prov == to.prov)) [
      | inl here ↦ rw here refl
      | inr other ↦ rw other (first_there xs to (rw other at among))
    ]

-- where all the places in a province have one coast, and none stands twice, there is at most one of them
abbrev AllAt : List Place → ℕ → ℕ → Type 0
AllAt places q c = (a : Place) → is_place_among a places ≡ true → a.prov ≡ q → a.coast ≡ c

count_none : (places : List Place) (to : Place) → AllAt places to.prov to.coast → is_place_among to places ≡ false → count_in places to.prov ≡ 0
count_none [] to all none = refl
count_none (x ∷ xs) to all none =
    elim (cases_Bool (x.prov == to.prov)) [
      | inl here ↦
          let coast : x.coast ≡ to.coast = all x (among_first x xs) (eqb-true _ _ here) in
          let is : ((x.prov == to.prov) && (x.coast == to.coast)) ≡ true = both_true here (eq-eqb _ _ coast) in
          let bad : true ≡ false = rw is at none in
          absurd (false≢true (sym bad))
      | inr other ↦
          let none_behind : is_place_among to xs ≡ false = rw other at none in
          let rest : count_in xs to.prov ≡ 0 = count_none xs to (λ a there at. all a (among_more a x xs there) at) none_behind in
          count_cons (λ b. b.prov == to.prov) x xs ∙ rw (other, rest) refl
    ]

count_one : (places : List Place) (to : Place) → AllAt places to.prov to.coast → are_places_single places ≡ true → count_in places to.prov ≤ 1
count_one [] to all single = omega arith
count_one (x ∷ xs) to all single =
    let (alone, more) = and_parts (not (is_place_among x xs)) (are_places_single xs) single in
    let behind : AllAt xs to.prov to.coast = λ a there at. all a (among_more a x xs there) at in
    elim (cases_Bool (x.prov == to.prov)) [
      | inl here ↦
          let same : x ≡ to = same_place x to (eqb-true _ _ here) (all x (among_first x xs) (eqb-true _ _ here)) in
          let none : is_place_among to xs ≡ false = ap (λ a. is_place_among a xs) (sym same) ∙ not-true _ alone in
          let count : count_in (x ∷ xs) to.prov ≡ 1 = count_cons (λ b. b.prov == to.prov) x xs ∙ rw (here, count_none xs to behind none) refl in
          omega (arith, count)
      | inr other ↦
          let count : count_in (x ∷ xs) to.prov ≡ 0 + count_in xs to.prov = count_cons (λ b. b.prov == to.prov) x xs ∙ rw other refl in
          omega (arith, count, count_one xs to behind more)
    ]

-- a province in which a coast has no name has no other
few_shores : (ss : List Shore) (k : ℕ) → (has_one_shore ss || has_named_shores ss) ≡ true → k < length ss → (get_or ss k no_shore).name ≡ [] → length ss ≤ 1
few_shores ss k shaped low bare =
    elim (cases_Bool (has_one_shore ss)) [
      | inl one ↦ omega (arith, eqb-true _ _ (and_parts (length ss == 1) (list_all (λ s. length s.name == 0) ss) one).0)
      | inr several ↦
          let named : has_named_shores ss ≡ true = rw several at shaped in
          let (_, rest) = and_parts (nat_le 2 (length ss)) (nat_le (length ss) 4 && list_all (λ s. is_coast_name s.name) ss) named in
          let (_, all) = and_parts (nat_le (length ss) 4) (list_all (λ s. is_coast_name s.name) ss) rest in
          let name : is_coast_name (get_or ss k no_shore).name ≡ true = test_at (λ s. is_coast_name s.name) ss k no_shore all low in
          let bad : is_coast_name [] ≡ true = ap is_coast_name (sym bare) ∙ name in
          absurd (false≢true bad)
    ]

shaped_few : (t : Terrain) (r : Province) (k : ℕ) → is_shaped t r ≡ true → k < length r.shores → (get_or r.shores k no_shore).name ≡ [] → length r.shores ≤ 1
shaped_few Inland r k shaped low bare = omega (arith, eqb-true _ _ shaped)
shaped_few Coast r k shaped low bare = few_shores r.shores k shaped low bare
shaped_few Sea r k shaped low bare =
    let (one, _) = and_parts (has_one_shore r.shores) ((length r.army == 0) && not r.centre) shaped in
    omega (arith, eqb-true _ _ (and_parts (length r.shores == 1) (list_all (λ s. length s.name == 0) r.shores) one).0)

-- a place where a fleet may be: its province, and its coast
pub place_of : (m : Chart) (a : Place) → is_fleet_place m a ≡ true → (a.prov < length m.provinces) × (a.coast < length (province m a.prov).shores)
place_of m a on = let (low, there) = and_parts _ _ on in (ltb-true _ _ low, ltb-true _ _ there)

pub only_shore_there : (m : Chart) → IsMap m → (a : Place) → is_fleet_place m a ≡ true → (shore m a).name ≡ [] → length (province m a.prov).shores ≤ 1
only_shore_there m ok a on bare =
    let (low, there) = place_of m a on in
    shaped_few (province m a.prov).terrain (province m a.prov) a.coast (shape_of m ok a.prov low) there bare

-- the places of a fleet in one province are one where one of them has no name, or both have the same
nameless_coast : (m : Chart) → IsMap m → (a to : Place) → is_fleet_place m a ≡ true → is_fleet_place m to ≡ true → (shore m to).name ≡ [] → a.prov ≡ to.prov → a.coast ≡ to.coast
nameless_coast m ok a to on there bare e =
    let few : length (province m to.prov).shores ≤ 1 = only_shore_there m ok to there bare in
    let alike : length (province m a.prov).shores ≡ length (province m to.prov).shores = ap (λ p. length (province m p).shores) e in
    omega (arith, few, alike, (place_of m a on).1, (place_of m to there).1)

named_coast : (m : Chart) → IsMap m → (a to : Place) → is_fleet_place m a ≡ true → is_fleet_place m to ≡ true → a.prov ≡ to.prov → (shore m a).name ≡ (shore m to).name → a.coast ≡ to.coast
named_coast m ok a to on there e names =
    let first : coast_of m a.prov (shore m a).name ≡ Some a.coast = ok.coasts_found a (place_of m a on).1 in
    let other : coast_of m to.prov (shore m to).name ≡ Some to.coast = ok.coasts_found to (place_of m to there).1 in
    let one : coast_of m a.prov (shore m a).name ≡ coast_of m to.prov (shore m to).name = ap (λ p. coast_of m p (shore m a).name) e ∙ ap (λ x. coast_of m to.prov x) names in
    let is : Some a.coast ≡ Some to.coast = sym first ∙ (one ∙ other) in
    cc

-- all of these are places where a fleet may be
abbrev pub AreOfFleets : Chart → List Place → Type 0
AreOfFleets m places = (a : Place) → is_place_among a places ≡ true → is_fleet_place m a ≡ true

-- a fleet comes to a place among these by what is printed of it
pub record SailsTo (m : Chart) (places : List Place) (to : Place) (none : OrderFault) : Type 0 where
  pub checks : Hold (sail_checks m places to.prov (written (shore m to).name) none)
  pub same : place_in m places to.prov (written (shore m to).name) ≡ to

pub sails_to : (m : Chart) (places : List Place) (to : Place) (none : OrderFault) → IsMap m → AreOfFleets m places → are_places_single places ≡ true → is_place_among to places ≡ true → SailsTo m places to none
sails_to m places to none ok sea single among = let both = by_name (shore m to).name refl in record { checks = both.0; same = both.1 }
  where
    by_name : (name : List ℕ) → (shore m to).name ≡ name → Hold (sail_checks m places to.prov (written name) none) × (place_in m places to.prov (written name) ≡ to)
    by_name [] bare =
        let at_coast : AllAt places to.prov to.coast = λ a there e. nameless_coast m ok a to (sea a there) (sea to among) bare e in
        let first : first_in places to.prov ≡ Some to =
        found_one (λ b. b.prov == to.prov) places to (eq-eqb to.prov to.prov refl) among
        (λ a there met. same_place a to (eqb-true _ _ met) (at_coast a there (eqb-true _ _ met))) in
        let few : nat_le (count_in places to.prov) 1 ≡ true = le-leb _ _ (count_one places to at_coast single) in
        ((ap (λ o. is_some o) first, (refl, (few, tt))), ap (λ o. unwrap_or o no_place) first)
    by_name (x ∷ xs) named =
        let found : named_in m places to.prov (x ∷ xs) ≡ Some to =
        found_one (λ b. (b.prov == to.prov) && bytes_eq (shore m b).name (x ∷ xs)) places to (both_true (eq-eqb to.prov to.prov refl) ((bytes_eq-Decides (shore m to).name (x ∷ xs)).1 named)) among
        (λ a there met.
        let (at, name) = and_parts (a.prov == to.prov) (bytes_eq (shore m a).name (x ∷ xs)) met in
        let e : a.prov ≡ to.prov = eqb-true _ _ at in
        let names : (shore m a).name ≡ (shore m to).name = (bytes_eq-Decides (shore m a).name (x ∷ xs)).0 name ∙ sym named in
        same_place a to e (named_coast m ok a to (sea a there) (sea to among) e names)) in
        ((first_there places to among, (ap (λ o. is_some o) found, (refl, tt))), ap (λ o. unwrap_or o no_place) found)
