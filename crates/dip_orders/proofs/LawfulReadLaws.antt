-- A lawful order is read from its own text.
use Rattle.std.proofs.Common.{◌≡◌, ℕ, ◌<◌, ◌==◌, ◌&&◌, not, Bool, true, false, length, List, [], ◌∷◌, ◌++◌, suc, refl, sym, ◌∙◌, ap, subst, inl, inr, arith, nat_lt, Option, Some, None, Ok, get_or, is_some, option_map}
use Rattle.std.proofs.lemmas.Bool.{and_from, and_parts, cases_Bool, eqb-true, eq-eqb, le-leb, lt-ltb, ltb-false, ltb-true, false≢true}
use Rattle.std.proofs.lemmas.List.{get_or_past}
use Rattle.std.specs.List.{list_any, list_all}
use Rattle.std.specs.Option.{unwrap_or}
use Rattle.std.specs.Cmp.Derive.{both_true}
use Rattle.dip_names.specs.declared.names.Kind.{Kind}
use Rattle.dip_names.specs.declared.names.Kind.TheVariants.{Army, Fleet}
use Rattle.dip_names.specs.declared.names.Place.{Place}
use Rattle.dip_names.specs.declared.names.Unit.{Unit as AUnit}
use Rattle.dip_map.specs.declared.boards.Dislodged.{Dislodged}
use Rattle.dip_map.specs.Charts.{Chart, IsMap, Province, Realm, are_places_single, army_next, fleet_next, home, no_province, no_realm, province, realm, shore, coast_of, is_army_next, is_fleet_place, is_unit, is_centre, is_power_name, may_stand}
use Rattle.dip_map.specs.Boards.{Position, IsOf, is_dislodged, is_prov_if_any}
use Rattle.dip_orders_lines.specs.Forms.{is_form, is_spot}
use Rattle.dip_orders_placed.specs.Allowances.{builds_due, removals_due}
use Rattle.dip_orders_lines.specs.Texts.{canonical_text}
use Rattle.dip_orders_lines.specs.Reading.{form_in}
use Rattle.dip_orders.specs.Checks.{Check, must}
use Rattle.dip_orders.specs.Laws.{LawfulOrdersAreRead}
use Rattle.dip_orders.specs.Lawful.{IsAllowed, IsSite, IsThere, MayAid, MayCarry, MayCome, Reaches, Stands}
use Rattle.dip_orders_placed.specs.Retreats.{is_place_among, next_places, on_foot, retreats_of}
use Rattle.dip_orders.specs.Rules.{checks_of, unit_checks, move_checks, move_place, other_checks, order_in, retreat_checks, site, site_checks, is_supportable, unit_of, the_unit, dislodged_of, the_dislodged}
use Rattle.dip_orders.specs.Conditions.{is_adjustment, is_retreat, army_place, could_move, first_in, is_on_map, may_build, may_convoy, may_travel, no_dislodged, no_place, no_unit, other_at, place_in, prov_named, unit_at, dislodged_at, knows_coast, builds_elsewhere, removals_elsewhere}
use Rattle.dip_names.specs.Kinds.{is_sea, is_coastal, is_kind}
use Rattle.dip_orders.specs.Texts.{order_text}
use Rattle.dip_orders.specs.declared.faults.OrderFault.TheVariants.{OutOfReach, SupportOutOfReach, WrongKind, NoBuildThere, NoConvoyThere, WrongCoast, AllowanceUsed, NoSuchRetreat}
use Rattle.dip_orders_placed.specs.declared.placed.Other.{Other}
use Rattle.dip_orders_placed.specs.declared.placed.Order.{Order}
use Rattle.dip_orders_placed.specs.declared.placed.Order.TheVariants.{Hold as Holds, Move as Moves, SupportHold as SupportsHold, SupportMove as SupportsMove, Convoy as Convoys, Retreat as Retreats, Disband as Disbands, Build as Builds, Remove as Removes}
use Rattle.dip_orders_placed.specs.declared.placed.PlacedOrder.{PlacedOrder}
use Rattle.dip_orders.proofs.AgainLaws.{named_again}
use Rattle.dip_orders.proofs.CheckLaws.{Hold, hold_both, holds_ok}
use Rattle.dip_orders.proofs.FormLaws.{NamesArmy, order_canonical, printed}
use Rattle.dip_orders_placed.proofs.FindLaws.{find_among, find_passes, some_is}
use Rattle.dip_orders.proofs.PlaceLaws.{AreOfFleets, found_one, only_shore_there, place_of, sails_to, same_place}
use Rattle.dip_orders.proofs.ReadingLaws.{Forms, form_read}
use Rattle.dip_orders_placed.proofs.RetreatLaws.{retreats_exact, retreats_single}
use Rattle.dip_orders.proofs.RoundTrip.{Again}
use Rattle.dip_orders.proofs.SpotLaws.{IsPlaceOf, bare_fine, bare_spot, code_named, code_on_map, coast_for, mention_of, place_low, spot_fine, spot_of, stands_at, test_at, written}

-- an element that a test meets is at an index
pub any_at : {A : Type 0} (q : A → Bool) (xs : List A) → list_any q xs ≡ true → (k : ℕ) × (k < length xs) × ((d : A) → q (get_or xs k d) ≡ true)
any_at q [] h = absurd (false≢true h)
any_at q (x ∷ xs) h =
    elim (cases_Bool (q x)) [
      | inl here ↦ (0, omega arith, λ d. here)
      | inr other ↦ let (k, low, met) = any_at q xs (rw other at h) in (suc k, omega arith, met)
    ]

-- a unit is told by what is printed of it
record Told (m : Chart) (u : AUnit) : Type 0 where
  pub low : u.place.prov < length m.provinces
  pub fine : is_spot (spot_of m u.kind u.place) ≡ true
  pub named : prov_named m (spot_of m u.kind u.place) ≡ u.place.prov
  pub on : is_on_map m (spot_of m u.kind u.place) ≡ true
  pub checks : (found : Option AUnit) → found ≡ Some u → Hold (unit_checks m found (mention_of m u.kind u.place))

told : (m : Chart) (u : AUnit) → IsMap m → IsPlaceOf m u.kind u.place → Told m u
told m u ok at =
    let low = place_low m u.kind u.place at in
    let named = code_named m ok u.place.prov (coast_for m u.kind u.place) low in
    record {
      low = low;
      fine = spot_fine m ok u.kind u.place at;
      named = named;
      on = code_on_map m ok u.place.prov (coast_for m u.kind u.place) low;
      checks = λ found is. (named_again m ok found (mention_of m u.kind u.place) u is (sym named) at).checks;
    }

unit_on_map : (m : Chart) (u : AUnit) → is_unit m u ≡ true → IsPlaceOf m u.kind u.place
unit_on_map m u on = stands_at m u.kind u.place (and_parts (nat_lt u.power (length m.realms)) (may_stand m u.kind u.place) on).1

-- the standing unit that an order names
record ToldUnit (m : Chart) (b : Position) (power : ℕ) (u : AUnit) : Type 0 where
  pub told : Told m u
  pub checks : Hold (unit_checks m (unit_of m b power (mention_of m u.kind u.place)) (mention_of m u.kind u.place))
  pub same : the_unit m b power (mention_of m u.kind u.place) ≡ u

told_unit : (m : Chart) (b : Position) (power : ℕ) (u : AUnit) → IsMap m → IsOf m b → Stands b power u → ToldUnit m b power u
told_unit m b power u ok of stands =
    let on = find_among (λ x. (x.power == power) && (x.place.prov == u.place.prov)) (λ x. is_unit m x) b.units u of.units stands.there in
    let words = told m u ok (unit_on_map m u on) in
    let found : unit_of m b power (mention_of m u.kind u.place) ≡ Some u = ap (λ n. unit_at b power n) words.named ∙ stands.there in
    record { told = words; checks = words.checks _ found; same = ap (λ o. unwrap_or o no_unit) found }

-- the dislodged unit that an order names
record ToldDislodged (m : Chart) (b : Position) (power : ℕ) (d : Dislodged) : Type 0 where
  pub told : Told m d.unit
  pub checks : Hold (unit_checks m (option_map (λ x. x.unit) (dislodged_of m b power (mention_of m d.unit.kind d.unit.place))) (mention_of m d.unit.kind d.unit.place))
  pub same : the_dislodged m b power (mention_of m d.unit.kind d.unit.place) ≡ d

told_dislodged : (m : Chart) (b : Position) (power : ℕ) (d : Dislodged) → IsMap m → IsOf m b → dislodged_at b power d.unit.place.prov ≡ Some d → ToldDislodged m b power d
told_dislodged m b power d ok of there =
    let on = find_among (λ x. (x.unit.power == power) && (x.unit.place.prov == d.unit.place.prov)) (λ x. is_dislodged m x) b.dislodged d of.dislodged there in
    let words = told m d.unit ok (unit_on_map m d.unit (and_parts (is_unit m d.unit) (is_prov_if_any m d.origin) on).0) in
    let found : dislodged_of m b power (mention_of m d.unit.kind d.unit.place) ≡ Some d = ap (λ n. dislodged_at b power n) words.named ∙ there in
    record { told = words; checks = words.checks _ (ap (λ o. option_map (λ x. x.unit) o) found); same = ap (λ o. unwrap_or o no_dislodged) found }

-- what holds of one holds of what is the same
back : {A : Type 0} (P : A → Type 0) (x y : A) → x ≡ y → P y → P x
back P x y e h = subst P (sym e) h

-- a province that is told by its code
record ToldProvince (m : Chart) (p : ℕ) : Type 0 where
  pub fine : is_spot (bare_spot m p) ≡ true
  pub on : is_on_map m (bare_spot m p) ≡ true
  pub named : prov_named m (bare_spot m p) ≡ p

told_province : (m : Chart) (p : ℕ) → IsMap m → p < length m.provinces → ToldProvince m p
told_province m p ok low = record { fine = bare_fine m ok p low; on = code_on_map m ok p None low; named = code_named m ok p None low }

-- where a unit could move, where a convoy may lead, and where another unit stands is on the map
pub next_low : (m : Chart) (p q : ℕ) → IsMap m → is_army_next m p q ≡ true → q < length m.provinces
next_low m p q ok h =
    let (k, low, met) = any_at (λ x. x == q) (army_next m p) h in
    subst (λ n. n < length m.provinces) (eqb-true _ _ (met 0)) (ok.army_within p k 0 low)

sea_low : (m : Chart) (a : Place) (q : ℕ) → IsMap m → is_some (first_in (fleet_next m a) q) ≡ true → q < length m.provinces
sea_low m a q ok h =
    let to : Place = unwrap_or (first_in (fleet_next m a) q) no_place in
    let found = some_is (first_in (fleet_next m a) q) no_place h in
    let on = find_among (λ x. x.prov == q) (λ x. is_fleet_place m x) (fleet_next m a) to (ok.fleet_within a) found in
    subst (λ n. n < length m.provinces) (eqb-true _ _ (find_passes (λ x. x.prov == q) (fleet_next m a) to found)) (place_of m to on).0

move_low : (m : Chart) (k : Kind) (a : Place) (q : ℕ) → IsMap m → could_move m k a q ≡ true → q < length m.provinces
move_low m Army a q ok h = next_low m a.prov q ok h
move_low m Fleet a q ok h = sea_low m a q ok h

past_province : (m : Chart) (p : ℕ) → nat_lt p (length m.provinces) ≡ false → province m p ≡ no_province
past_province m p past = get_or_past m.provinces p no_province (ltb-false _ _ past)

pub coast_low : (m : Chart) (p : ℕ) → is_coastal (province m p).terrain ≡ true → p < length m.provinces
coast_low m p h =
    elim (cases_Bool (nat_lt p (length m.provinces))) [
      | inl low ↦ ltb-true _ _ low
      | inr past ↦ absurd (false≢true (rw (past_province m p past) at h))
    ]

convoy_low : (m : Chart) (p q : ℕ) → may_convoy m p q ≡ true → (p < length m.provinces) × (q < length m.provinces)
convoy_low m p q h =
    let (from, rest) = and_parts (is_coastal (province m p).terrain) (is_coastal (province m q).terrain && not (p == q)) h in
    (coast_low m p from, coast_low m q (and_parts (is_coastal (province m q).terrain) (not (p == q)) rest).0)

-- the places of a fleet's neighbours
pub fleets_next : (m : Chart) → IsMap m → (a : Place) → AreOfFleets m (fleet_next m a)
fleets_next m ok a to among =
    let (k, low, met) = any_at (λ x. (x.prov == to.prov) && (x.coast == to.coast)) (fleet_next m a) among in
    let there : Place = get_or (fleet_next m a) k no_place in
    let (prov, coast) = and_parts (there.prov == to.prov) (there.coast == to.coast) (met no_place) in
    subst (λ (x : Place). is_fleet_place m x ≡ true) (same_place there to (eqb-true _ _ prov) (eqb-true _ _ coast)) (ok.fleet_within a k no_place low)

-- where a unit moves to is told by what is printed of it
record ToldMove (m : Chart) (k : Kind) (a to : Place) (via : Bool) : Type 0 where
  pub on : IsPlaceOf m k to
  pub checks : Hold (move_checks m k a to.prov (coast_for m k to) via)
  pub same : move_place m k a to.prov (coast_for m k to) ≡ to

march_low : (m : Chart) (p q : ℕ) → IsMap m → may_travel m p q ≡ true → q < length m.provinces
march_low m p q ok h =
    elim (cases_Bool (is_army_next m p q)) [
      | inl near ↦ next_low m p q ok near
      | inr far ↦ (convoy_low m p q (rw far at h)).1
    ]

told_move : (m : Chart) (k : Kind) (a to : Place) (via : Bool) → IsMap m → Reaches m k a to via → ToldMove m k a to via
told_move m Army a to true ok h = record { on = (convoy_low m a.prov to.prov h.1).1; checks = (refl, (h.1, tt)); same = sym h.0 }
told_move m Army a to false ok h = record { on = march_low m a.prov to.prov ok h.1; checks = (refl, (h.1, tt)); same = sym h.0 }
told_move m Fleet a to via ok h =
    let sails = sails_to m (fleet_next m a) to OutOfReach ok (fleets_next m ok a) (ok.fleet_single a) h.1 in
    record { on = fleets_next m ok a to h.1; checks = (h.0, sails.checks); same = sails.same }

-- where a dislodged unit goes to is told by what is printed of it
record ToldRetreat (m : Chart) (k : Kind) (places : List Place) (to : Place) : Type 0 where
  pub on : IsPlaceOf m k to
  pub checks : Hold (retreat_checks m k places to.prov (coast_for m k to))
  pub same : place_in m places to.prov (coast_for m k to) ≡ to

pub foot_coast : (ps : List ℕ) (a : Place) → is_place_among a (on_foot ps) ≡ true → a.coast ≡ 0
foot_coast [] a h = absurd (false≢true h)
foot_coast (p ∷ ps) a h =
    elim (cases_Bool ((p == a.prov) && (0 == a.coast))) [
      | inl here ↦ sym (eqb-true _ _ (and_parts (p == a.prov) (0 == a.coast) here).1)
      | inr other ↦ foot_coast ps a (rw other at h)
    ]

pub foot_near : (ps : List ℕ) (a : Place) → is_place_among a (on_foot ps) ≡ true → list_any (λ x. x == a.prov) ps ≡ true
foot_near [] a h = absurd (false≢true h)
foot_near (p ∷ ps) a h =
    elim (cases_Bool (p == a.prov)) [
      | inl here ↦ rw here refl
      | inr other ↦ rw other (foot_near ps a (rw other at h))
    ]

told_retreat : (m : Chart) (k : Kind) (a : Place) (places : List Place) (to : Place) → IsMap m → ((x : Place) → is_place_among x places ≡ true → is_place_among x (next_places m k a) ≡ true)
    → are_places_single places ≡ true → is_place_among to places ≡ true → ToldRetreat m k places to
told_retreat m Army a places to ok next single among =
    let inland : (x : Place) → is_place_among x places ≡ true → x.coast ≡ 0 = λ x there. foot_coast (army_next m a.prov) x (next x there) in
    let first : first_in places to.prov ≡ Some to =
    found_one (λ x. x.prov == to.prov) places to (eq-eqb to.prov to.prov refl) among
    (λ x there met. same_place x to (eqb-true _ _ met) (inland x there ∙ sym (inland to among))) in
    record {
      on = next_low m a.prov to.prov ok (foot_near (army_next m a.prov) to (next to among));
      checks = (ap (λ o. is_some o) first, (refl, tt));
      same = ap (λ o. unwrap_or o no_place) first;
    }
told_retreat m Fleet a places to ok next single among =
    let sea : AreOfFleets m places = λ x there. fleets_next m ok a x (next x there) in
    let sails = sails_to m places to NoSuchRetreat ok sea single among in
    record { on = sea to among; checks = sails.checks; same = sails.same }

-- where a unit is built is told by what is printed of it
record ToldSite (m : Chart) (k : Kind) (a : Place) : Type 0 where
  pub on : IsPlaceOf m k a
  pub checks : Hold (site_checks m k a.prov (coast_for m k a))
  pub same : site m a.prov (coast_for m k a) ≡ a

pub centre_low : (m : Chart) (p : ℕ) → is_centre m p ≡ true → p < length m.provinces
centre_low m p h =
    elim (cases_Bool (nat_lt p (length m.provinces))) [
      | inl low ↦ ltb-true _ _ low
      | inr past ↦ absurd (false≢true (sym (ap (λ (r : Province). r.centre) (past_province m p past)) ∙ h))
    ]

pub home_centre : (m : Chart) (power p : ℕ) → IsMap m → list_any (λ x. x == p) (home m power) ≡ true → is_centre m p ≡ true
home_centre m power p ok h =
    elim (cases_Bool (nat_lt power (length m.realms))) [
      | inl low ↦
          let (_, rest) = and_parts (is_power_name (realm m power).name) _ (ok.realms power (ltb-true _ _ low)) in
          let (centres, _) = and_parts (list_all (λ x. is_centre m x) (home m power)) _ rest in
          let (k, there, met) = any_at (λ x. x == p) (home m power) h in
          let centre : is_centre m (get_or (home m power) k 0) ≡ true = test_at (λ x. is_centre m x) (home m power) k 0 centres there in
          subst (λ n. is_centre m n ≡ true) (eqb-true _ _ (met 0)) centre
      | inr past ↦
          let none : realm m power ≡ no_realm = get_or_past m.realms power no_realm (ltb-false _ _ past) in
          let empty : home m power ≡ [] = ap (λ (r : Realm). r.home) none in
          let bad : list_any (λ x. x == p) [] ≡ true = sym (ap (λ ps. list_any (λ x. x == p) ps) empty) ∙ h in
          absurd (false≢true bad)
    ]

home_low : (m : Chart) (power p : ℕ) → IsMap m → list_any (λ x. x == p) (home m power) ≡ true → p < length m.provinces
home_low m power p ok h = centre_low m p (home_centre m power p ok h)

told_site : (m : Chart) (k : Kind) (a : Place) → IsMap m → a.prov < length m.provinces → IsSite m k a → ToldSite m k a
told_site m Army a ok low h = record { on = low; checks = (refl, tt); same = sym h }
told_site m Fleet a ok low h = let both = by_name (shore m a).name refl in record { on = h; checks = both.0; same = both.1 }
  where
    by_name : (name : List ℕ) → (shore m a).name ≡ name → Hold (site_checks m Fleet a.prov (written name)) × (site m a.prov (written name) ≡ a)
    by_name [] bare =
        let few = only_shore_there m ok a h bare in
        let none : 0 ≡ a.coast = omega (arith, few, (place_of m a h).1) in
        ((refl, (le-leb _ _ few, tt)), same_place (army_place a.prov) a refl none)
    by_name (c ∷ cs) named =
        let found : coast_of m a.prov (c ∷ cs) ≡ Some a.coast = ap (λ x. coast_of m a.prov x) (sym named) ∙ ok.coasts_found a (place_of m a h).1 in
        ((ap (λ o. is_some o) found, (refl, tt)), same_place (site m a.prov (Some (c ∷ cs))) a refl (ap (λ o. unwrap_or o 0) found))

-- an order whose form passes its checks, and is that order, is what its own text says
make : (m : Chart) (b : Position) (power : ℕ) (pending : List PlacedOrder) (o : PlacedOrder) → NamesArmy o.order → is_form (printed m o.unit o.order) ≡ true
    → Hold (checks_of m b power pending (printed m o.unit o.order)) → order_in m b power (printed m o.unit o.order) ≡ o → Again m b power pending o
make m b power pending o army fine checks same = record {
  fine = fine;
  text = order_canonical m o.unit o.order army;
  same = holds_ok (checks_of m b power pending (printed m o.unit o.order)) (order_in m b power (printed m o.unit o.order)) checks ∙ ap (λ x. Ok x) same;
}

-- the unit, and one or two provinces, told in other words
back_two : {A : Type 0} (P : A → ℕ → Type 0) (v u : A) (r q : ℕ) → v ≡ u → r ≡ q → P u q → P v r
back_two P v u r q e f h = subst (λ x. P x r) (sym e) (subst (λ n. P u n) (sym f) h)

back_three : {A : Type 0} (P : A → ℕ → ℕ → Type 0) (v u : A) (r q t to : ℕ) → v ≡ u → r ≡ q → t ≡ to → P u q to → P v r t
back_three P v u r q t to e f g h = subst (λ x. P x r t) (sym e) (subst (λ n. P u n t) (sym f) (subst (λ n. P u q n) (sym g) h))

-- the other unit is on the map
other_low : (m : Chart) (b : Position) (at : Other) (x : AUnit) → IsOf m b → IsThere b at x → at.prov < length m.provinces
other_low m b at x of there =
    let test : AUnit → Bool = λ u. is_kind u.kind at.kind && (u.place.prov == at.prov) in
    let on = find_among test (λ u. is_unit m u) b.units x of.units there.there in
    let here : x.place.prov ≡ at.prov = eqb-true _ _ (and_parts (is_kind x.kind at.kind) (x.place.prov == at.prov) (find_passes test b.units x there.there)).1 in
    subst (λ n. n < length m.provinces) here (place_low m x.kind x.place (unit_on_map m x on))

move_again : (m : Chart) (b : Position) (power : ℕ) (pending : List PlacedOrder) (u : AUnit) (to : Place) (via : Bool) → IsMap m → IsOf m b → IsAllowed m b power pending u (Moves to via)
    → Again m b power pending (record { unit = u; order = Moves to via })
move_again m b power pending u to via ok of h =
    let unit = told_unit m b power u ok of h.1.0 in
    let move = told_move m u.kind u.place to via ok h.1.1 in
    let low = place_low m u.kind to move.on in
    let coast = coast_for m u.kind to in
    let both = back_two {A = AUnit} (λ x n. Hold (move_checks m x.kind x.place n coast via) × (◌≡◌ {A = PlacedOrder} (record { unit = x; order = Moves (move_place m x.kind x.place n coast) via }) (record { unit = u; order = Moves to via })))
    (the_unit m b power (mention_of m u.kind u.place)) u (prov_named m (spot_of m u.kind to)) to.prov unit.same (code_named m ok to.prov coast low) (move.checks, ap (λ (a : Place). record { unit = u; order = Moves a via }) move.same) in
    make m b power pending (record { unit = u; order = Moves to via }) tt (both_true unit.told.fine (both_true (spot_fine m ok u.kind to move.on) refl))
    (h.0, (unit.told.on, (code_on_map m ok to.prov coast low, hold_both (unit_checks m (unit_of m b power (mention_of m u.kind u.place)) (mention_of m u.kind u.place)) _ unit.checks both.0)))
    both.1

hold_again : (m : Chart) (b : Position) (power : ℕ) (pending : List PlacedOrder) (u : AUnit) → IsMap m → IsOf m b → IsAllowed m b power pending u Holds
    → Again m b power pending (record { unit = u; order = Holds })
hold_again m b power pending u ok of h =
    let unit = told_unit m b power u ok of h.1 in
    make m b power pending (record { unit = u; order = Holds }) tt (both_true unit.told.fine refl) (h.0, (unit.told.on, unit.checks)) (ap (λ (x : AUnit). record { unit = x; order = Holds }) unit.same)

-- what is checked of a support or a convoy after its unit, told by codes alone
abbrev held_checks : Chart → Position → Kind → AUnit → ℕ → List Check
held_checks m b k x n = other_checks m b k n None ++ must (could_move m x.kind x.place n) SupportOutOfReach ∷ []

abbrev aided_checks : Chart → Position → Kind → AUnit → ℕ → ℕ → List Check
aided_checks m b k x n t = other_checks m b k n None ++ must (is_supportable m x (unwrap_or (other_at b k n) no_unit) t) SupportOutOfReach ∷ []

abbrev carried_checks : Chart → Position → AUnit → ℕ → ℕ → List Check
carried_checks m b x n t =
    must (is_kind x.kind Fleet) WrongKind
    ∷ must (is_sea (province m x.place.prov).terrain) NoConvoyThere
    ∷ (other_checks m b Army n None ++ must (knows_coast m t None) WrongCoast ∷ must (may_convoy m n t) NoConvoyThere ∷ [])

abbrev due_checks : Position → ℕ → List PlacedOrder → ℕ → List Check
due_checks b power pending n = must (nat_lt (removals_elsewhere pending n) (removals_due b power)) AllowanceUsed ∷ []

support_hold_again : (m : Chart) (b : Position) (power : ℕ) (pending : List PlacedOrder) (u : AUnit) (at : Other) → IsMap m → IsOf m b → IsAllowed m b power pending u (SupportsHold at)
    → Again m b power pending (record { unit = u; order = SupportsHold at })
support_hold_again m b power pending u at ok of h =
    let unit = told_unit m b power u ok of h.1.0 in
    let prov = told_province m at.prov ok (move_low m u.kind u.place at.prov ok h.1.1.reach) in
    let both = back_two {A = AUnit} (λ x n. Hold (held_checks m b at.kind x n)
    × (◌≡◌ {A = PlacedOrder} (record { unit = x; order = SupportsHold (record { kind = at.kind; prov = n }) }) (record { unit = u; order = SupportsHold at })))
    (the_unit m b power (mention_of m u.kind u.place)) u (prov_named m (bare_spot m at.prov)) at.prov unit.same prov.named
    ((ap (λ o. is_some o) h.1.1.there.there, (refl, (h.1.1.reach, tt))), refl) in
    make m b power pending (record { unit = u; order = SupportsHold at }) tt (both_true unit.told.fine (both_true prov.fine refl))
    (h.0, (unit.told.on, (prov.on, hold_both (unit_checks m (unit_of m b power (mention_of m u.kind u.place)) (mention_of m u.kind u.place)) (held_checks m b at.kind (the_unit m b power (mention_of m u.kind u.place)) (prov_named m (bare_spot m at.prov))) unit.checks both.0)))
    both.1

support_move_again : (m : Chart) (b : Position) (power : ℕ) (pending : List PlacedOrder) (u : AUnit) (at : Other) (to : ℕ) → IsMap m → IsOf m b → IsAllowed m b power pending u (SupportsMove at to)
    → Again m b power pending (record { unit = u; order = SupportsMove at to })
support_move_again m b power pending u at to ok of h =
    let aid : MayAid m b u at to = h.1.1 in
    let unit = told_unit m b power u ok of h.1.0 in
    let from = told_province m at.prov ok (other_low m b at aid.other of aid.there) in
    let prov = told_province m to ok (move_low m u.kind u.place to ok aid.reach) in
    let reach : is_supportable m u aid.other to ≡ true = and_from _ _ aid.reach (and_from _ _ (ap (λ x. not x) aid.apart) aid.comes) in
    let there : other_at b at.kind at.prov ≡ Some aid.other = aid.there.there in
    let both = back_three {A = AUnit} (λ x n t. Hold (aided_checks m b at.kind x n t)
    × (◌≡◌ {A = PlacedOrder} (record { unit = x; order = SupportsMove (record { kind = at.kind; prov = n }) t }) (record { unit = u; order = SupportsMove at to })))
    (the_unit m b power (mention_of m u.kind u.place)) u (prov_named m (bare_spot m at.prov)) at.prov (prov_named m (bare_spot m to)) to unit.same from.named prov.named
    ((ap (λ o. is_some o) there, (refl, (ap (λ o. is_supportable m u (unwrap_or o no_unit) to) there ∙ reach, tt))), refl) in
    make m b power pending (record { unit = u; order = SupportsMove at to }) tt (both_true unit.told.fine (both_true from.fine (both_true prov.fine refl)))
    (h.0, (unit.told.on, (from.on, (prov.on, hold_both (unit_checks m (unit_of m b power (mention_of m u.kind u.place)) (mention_of m u.kind u.place)) (aided_checks m b at.kind (the_unit m b power (mention_of m u.kind u.place)) (prov_named m (bare_spot m at.prov)) (prov_named m (bare_spot m to))) unit.checks both.0))))
    both.1

convoy_again : (m : Chart) (b : Position) (power : ℕ) (pending : List PlacedOrder) (u : AUnit) (at : Other) (to : ℕ) → IsMap m → IsOf m b → IsAllowed m b power pending u (Convoys at to)
    → Again m b power pending (record { unit = u; order = Convoys at to })
convoy_again m b power pending u at to ok of h =
    let carry : MayCarry m b u at to = h.1.1 in
    let unit = told_unit m b power u ok of h.1.0 in
    let coasts = convoy_low m at.prov to carry.coasts in
    let from = told_province m at.prov ok coasts.0 in
    let prov = told_province m to ok coasts.1 in
    let there : other_at b Army at.prov ≡ Some carry.other = ap (λ k. other_at b k at.prov) (sym carry.army) ∙ carry.there.there in
    let both = back_three {A = AUnit} (λ x n t. Hold (carried_checks m b x n t)
    × (◌≡◌ {A = PlacedOrder} (record { unit = x; order = Convoys (record { kind = Army; prov = n }) t }) (record { unit = u; order = Convoys at to })))
    (the_unit m b power (mention_of m u.kind u.place)) u (prov_named m (bare_spot m at.prov)) at.prov (prov_named m (bare_spot m to)) to unit.same from.named prov.named (
      (ap (λ k. is_kind k Fleet) carry.fleet, (carry.sea, (ap (λ o. is_some o) there, (refl, (refl, (carry.coasts, tt)))))),
      ap (λ (k : Kind). record { unit = u; order = Convoys (record { kind = k; prov = at.prov }) to }) (sym carry.army),
    ) in
    make m b power pending (record { unit = u; order = Convoys at to }) carry.army (both_true unit.told.fine (both_true from.fine (both_true prov.fine refl)))
    (h.0, (unit.told.on, (from.on, (prov.on, hold_both (unit_checks m (unit_of m b power (mention_of m u.kind u.place)) (mention_of m u.kind u.place)) (carried_checks m b (the_unit m b power (mention_of m u.kind u.place)) (prov_named m (bare_spot m at.prov)) (prov_named m (bare_spot m to))) unit.checks both.0))))
    both.1

left_again : (m : Chart) (b : Position) (power : ℕ) (pending : List PlacedOrder) (d : Dislodged) (to : Place) → IsMap m → IsOf m b → is_retreat b.phase.season ≡ true
    → dislodged_at b power d.unit.place.prov ≡ Some d → is_place_among to (retreats_of m b d) ≡ true → Again m b power pending (record { unit = d.unit; order = Retreats to })
left_again m b power pending d to ok of now there among =
    let unit = told_dislodged m b power d ok of there in
    let next : (x : Place) → is_place_among x (retreats_of m b d) ≡ true → is_place_among x (next_places m d.unit.kind d.unit.place) ≡ true = λ x open_there. ((retreats_exact m b d x).0 open_there).next in
    let left = told_retreat m d.unit.kind d.unit.place (retreats_of m b d) to ok next (retreats_single m b d ok.army_single ok.fleet_single) among in
    let low = place_low m d.unit.kind to left.on in
    let coast = coast_for m d.unit.kind to in
    let both = back_two {A = Dislodged} (λ x n. Hold (retreat_checks m x.unit.kind (retreats_of m b x) n coast)
    × (◌≡◌ {A = PlacedOrder} (record { unit = x.unit; order = Retreats (place_in m (retreats_of m b x) n coast) }) (record { unit = d.unit; order = Retreats to })))
    (the_dislodged m b power (mention_of m d.unit.kind d.unit.place)) d (prov_named m (spot_of m d.unit.kind to)) to.prov unit.same (code_named m ok to.prov coast low)
    (left.checks, ap (λ (a : Place). record { unit = d.unit; order = Retreats a }) left.same) in
    make m b power pending (record { unit = d.unit; order = Retreats to }) tt (both_true unit.told.fine (both_true (spot_fine m ok d.unit.kind to left.on) refl))
    (now, (unit.told.on, (code_on_map m ok to.prov coast low, hold_both (unit_checks m (option_map (λ x. x.unit) (dislodged_of m b power (mention_of m d.unit.kind d.unit.place))) (mention_of m d.unit.kind d.unit.place)) _ unit.checks both.0)))
    both.1

retreat_again : (m : Chart) (b : Position) (power : ℕ) (pending : List PlacedOrder) (u : AUnit) (to : Place) → IsMap m → IsOf m b → IsAllowed m b power pending u (Retreats to)
    → Again m b power pending (record { unit = u; order = Retreats to })
retreat_again m b power pending u to ok of h =
    let d : Dislodged = h.1.dislodged in
    let there : dislodged_at b power d.unit.place.prov ≡ Some d = ap (λ (x : AUnit). dislodged_at b power x.place.prov) h.1.there.unit ∙ h.1.there.there in
    subst (λ (x : AUnit). Again m b power pending (record { unit = x; order = Retreats to })) h.1.there.unit (left_again m b power pending d to ok of h.0 there h.1.retreat)

gone_again : (m : Chart) (b : Position) (power : ℕ) (pending : List PlacedOrder) (d : Dislodged) → IsMap m → IsOf m b → is_retreat b.phase.season ≡ true
    → dislodged_at b power d.unit.place.prov ≡ Some d → Again m b power pending (record { unit = d.unit; order = Disbands })
gone_again m b power pending d ok of now there =
    let unit = told_dislodged m b power d ok of there in
    make m b power pending (record { unit = d.unit; order = Disbands }) tt (both_true unit.told.fine refl) (now, (unit.told.on, unit.checks)) (ap (λ (x : Dislodged). record { unit = x.unit; order = Disbands }) unit.same)

disband_again : (m : Chart) (b : Position) (power : ℕ) (pending : List PlacedOrder) (u : AUnit) → IsMap m → IsOf m b → IsAllowed m b power pending u Disbands
    → Again m b power pending (record { unit = u; order = Disbands })
disband_again m b power pending u ok of h =
    let (now, (d, is)) = h in
    let there : dislodged_at b power d.unit.place.prov ≡ Some d = ap (λ (x : AUnit). dislodged_at b power x.place.prov) is.unit ∙ is.there in
    subst (λ (x : AUnit). Again m b power pending (record { unit = x; order = Disbands })) is.unit (gone_again m b power pending d ok of now there)

built_again : (m : Chart) (b : Position) (power : ℕ) (pending : List PlacedOrder) (u : AUnit) → IsMap m → is_adjustment b.phase.season ≡ true → u.power ≡ power → MayCome m b power pending u
    → Again m b power pending (record { unit = u; order = Builds })
built_again m b power pending u ok now own h =
    let (home, _) = and_parts (list_any (λ x. x == u.place.prov) (home m power)) _ h.home in
    let low = home_low m power u.place.prov ok home in
    let word = told_site m u.kind u.place ok low h.place in
    let words = told m u ok word.on in
    let coast = coast_for m u.kind u.place in
    let due : nat_lt (builds_elsewhere pending u.place.prov) (builds_due m b power) ≡ true = lt-ltb _ _ h.due in
    let mine : power ≡ u.power = sym own in
    let both = back (λ n. Hold (must (may_build m b power u.kind n) NoBuildThere ∷ (site_checks m u.kind n coast ++ must (nat_lt (builds_elsewhere pending n) (builds_due m b power)) AllowanceUsed ∷ []))
    × (◌≡◌ {A = PlacedOrder} (record { unit = record { power = power; kind = u.kind; place = site m n coast }; order = Builds }) (record { unit = u; order = Builds })))
    (prov_named m (spot_of m u.kind u.place)) u.place.prov words.named (
      (h.home, hold_both (site_checks m u.kind u.place.prov coast) (must (nat_lt (builds_elsewhere pending u.place.prov) (builds_due m b power)) AllowanceUsed ∷ []) word.checks (due, tt)),
      λ i. record { unit = record { power = mine i; kind = u.kind; place = word.same i }; order = Builds },
    ) in
    make m b power pending (record { unit = u; order = Builds }) tt (both_true words.fine refl) (now, (words.on, both.0)) both.1

remove_again : (m : Chart) (b : Position) (power : ℕ) (pending : List PlacedOrder) (u : AUnit) → IsMap m → IsOf m b → IsAllowed m b power pending u Removes
    → Again m b power pending (record { unit = u; order = Removes })
remove_again m b power pending u ok of h =
    let unit = told_unit m b power u ok of h.1.unit in
    let due : nat_lt (removals_elsewhere pending u.place.prov) (removals_due b power) ≡ true = lt-ltb _ _ h.1.due in
    let checks = back (λ n. Hold (due_checks b power pending n)) (prov_named m (spot_of m u.kind u.place)) u.place.prov unit.told.named (due, tt) in
    make m b power pending (record { unit = u; order = Removes }) tt (both_true unit.told.fine refl)
    (h.0, (unit.told.on, hold_both (unit_checks m (unit_of m b power (mention_of m u.kind u.place)) (mention_of m u.kind u.place)) (due_checks b power pending (prov_named m (spot_of m u.kind u.place))) unit.checks checks))
    (ap (λ (x : AUnit). record { unit = x; order = Removes }) unit.same)

allowed_again : (m : Chart) (b : Position) (power : ℕ) (pending : List PlacedOrder) (u : AUnit) (o : Order) → IsMap m → IsOf m b → IsAllowed m b power pending u o
    → Again m b power pending (record { unit = u; order = o })
allowed_again m b power pending u Holds ok of h = hold_again m b power pending u ok of h
allowed_again m b power pending u (Moves to via) ok of h = move_again m b power pending u to via ok of h
allowed_again m b power pending u (SupportsHold at) ok of h = support_hold_again m b power pending u at ok of h
allowed_again m b power pending u (SupportsMove at to) ok of h = support_move_again m b power pending u at to ok of h
allowed_again m b power pending u (Convoys at to) ok of h = convoy_again m b power pending u at to ok of h
allowed_again m b power pending u (Retreats to) ok of h = retreat_again m b power pending u to ok of h
allowed_again m b power pending u Disbands ok of h = disband_again m b power pending u ok of h
allowed_again m b power pending u Builds ok of h = built_again m b power pending u ok h.0 h.1.power h.1
allowed_again m b power pending u Removes ok of h = remove_again m b power pending u ok of h

-- for every form of order: its canonical text is read as that order
pub lawful_read : Forms → LawfulOrdersAreRead
lawful_read forms m b power pending o ok of h =
    let again : Again m b power pending o = allowed_again m b power pending o.unit o.order ok of h in
    let said : form_in (canonical_text (printed m o.unit o.order)) ≡ Some (printed m o.unit o.order) = forms.said _ _ (forms.again (printed m o.unit o.order) again.fine) in
    form_read m b power pending (order_text m o) (printed m o.unit o.order) o (ap form_in again.text ∙ said) again.same
