-- What is printed of an order that was read passes the same checks, and is the same order.
use Rattle.std.proofs.Common.{◌≡◌, ℕ, ◌<◌, ◌==◌, ◌&&◌, ◌||◌, Bool, true, List, [], ◌∷◌, length, refl, sym, ◌∙◌, ap, subst, inl, inr, arith, Option, Some, None, filter, find, get_or, is_some, option_map, nat_le, nat_lt}
use Rattle.std.proofs.lemmas.Bool.{and_parts, cases_Bool, eqb-true, leb-true, lt-ltb, false≢true}
use Rattle.std.proofs.lemmas.List.Quantifiers.{position-Some}
use Rattle.std.specs.List.{list_all}
use Rattle.std.proofs.lemmas.Slice.Eq.{bytes_eq-Decides}
use Rattle.std.specs.Option.{unwrap_or}
use Rattle.std.specs.Str.{bytes_eq}
use Rattle.std.specs.Cmp.Derive.{both_true}
use Rattle.dip_names.specs.declared.names.Kind.{Kind}
use Rattle.dip_names.specs.declared.names.Kind.TheVariants.{Army, Fleet}
use Rattle.dip_names.specs.declared.names.Terrain.{Terrain}
use Rattle.dip_names.specs.declared.names.Terrain.TheVariants.{Inland, Coast, Sea}
use Rattle.dip_names.specs.declared.names.Place.{Place}
use Rattle.dip_names.specs.declared.names.Unit.{Unit as AUnit}
use Rattle.dip_map.specs.declared.boards.Dislodged.{Dislodged}
use Rattle.dip_map.specs.Charts.{Chart, IsMap, Province, Shore, no_shore, coast_of, is_shaped, has_one_shore, has_named_shores, province, shore, fleet_next, is_fleet_place, is_unit, may_stand}
use Rattle.dip_map.specs.Boards.{Position, IsOf, is_dislodged, is_prov_if_any}
use Rattle.dip_orders_lines.specs.Forms.{is_coast}
use Rattle.dip_orders_lines.specs.declared.forms.Mention.{Mention}
use Rattle.dip_orders_placed.specs.Retreats.{is_open, next_places}
use Rattle.dip_orders.specs.Rules.{unit_checks, sail_checks, move_checks, move_place, site, site_checks, retreat_checks, unit_of, the_unit, dislodged_of, the_dislodged}
use Rattle.dip_orders.specs.Conditions.{is_on_map, prov_named, no_place, no_unit, no_dislodged, unit_at, dislodged_at, knows_coast, first_in, named_in, place_in}
use Rattle.dip_names.specs.Kinds.{is_coastal, is_kind}
use Rattle.dip_orders.specs.declared.faults.OrderFault.{OrderFault}
use Rattle.dip_orders.specs.declared.faults.OrderFault.TheVariants.{OutOfReach, NoSuchRetreat}
use Rattle.dip_orders.proofs.CheckLaws.{Hold}
use Rattle.dip_orders_placed.proofs.FindLaws.{some_is, find_passes, find_among, find_narrow, find_kept_in}
use Rattle.dip_orders.proofs.SpotLaws.{test_at, IsPlaceOf, shape_of, coast_for, code_named, code_on_map, knows_own, mention_of, place_low, spot_of, stands_at, written}

is_kind_self : (k : Kind) → is_kind k k ≡ true
is_kind_self Army = refl
is_kind_self Fleet = refl

-- a unit that was found in its province is named by what is printed of it
pub record NamedAgain (m : Chart) (found : Option AUnit) (u : Mention) (unit : AUnit) : Type 0 where
  pub at : prov_named m (spot_of m unit.kind unit.place) ≡ prov_named m u.at
  pub on : is_on_map m (spot_of m unit.kind unit.place) ≡ true
  pub checks : Hold (unit_checks m found (mention_of m unit.kind unit.place))

pub named_again : (m : Chart) → IsMap m → (found : Option AUnit) (u : Mention) (unit : AUnit) → found ≡ Some unit → unit.place.prov ≡ prov_named m u.at → IsPlaceOf m unit.kind unit.place
    → NamedAgain m found u unit
named_again m ok found u unit is at stands =
    let low = place_low m unit.kind unit.place stands in
    let code : prov_named m (spot_of m unit.kind unit.place) ≡ unit.place.prov = code_named m ok unit.place.prov (coast_for m unit.kind unit.place) low in
    let own : knows_coast m (prov_named m (spot_of m unit.kind unit.place)) (coast_for m unit.kind unit.place) ≡ true = rw code (knows_own m ok unit.kind unit.place stands) in
    record {
      at = code ∙ at;
      on = code_on_map m ok unit.place.prov (coast_for m unit.kind unit.place) low;
      checks = (ap (λ o. is_some o) is, (rw is (is_kind_self unit.kind), (own, tt)));
    }

-- the standing unit that a line orders
pub record UnitAgain (m : Chart) (b : Position) (power : ℕ) (u : Mention) : Type 0 where
  pub found : unit_at b power (the_unit m b power u).place.prov ≡ Some (the_unit m b power u)
  pub prov : (the_unit m b power u).place.prov ≡ prov_named m u.at
  pub place : IsPlaceOf m (the_unit m b power u).kind (the_unit m b power u).place
  pub on : is_on_map m (spot_of m (the_unit m b power u).kind (the_unit m b power u).place) ≡ true
  pub checks : Hold (unit_checks m (unit_of m b power (mention_of m (the_unit m b power u).kind (the_unit m b power u).place)) (mention_of m (the_unit m b power u).kind (the_unit m b power u).place))
  pub named : prov_named m (spot_of m (the_unit m b power u).kind (the_unit m b power u).place) ≡ prov_named m u.at
  pub same : the_unit m b power (mention_of m (the_unit m b power u).kind (the_unit m b power u).place) ≡ the_unit m b power u

pub unit_again : (m : Chart) (b : Position) (power : ℕ) (u : Mention) → IsMap m → IsOf m b → Hold (unit_checks m (unit_of m b power u) u) → UnitAgain m b power u
unit_again m b power u ok of h =
    let unit : AUnit = the_unit m b power u in
    let there : unit_of m b power u ≡ Some unit = some_is (unit_of m b power u) no_unit h.0 in
    let own = find_passes (λ x. (x.power == power) && (x.place.prov == prov_named m u.at)) b.units unit there in
    let at : unit.place.prov ≡ prov_named m u.at = eqb-true _ _ (and_parts (unit.power == power) (unit.place.prov == prov_named m u.at) own).1 in
    let on = find_among (λ x. (x.power == power) && (x.place.prov == prov_named m u.at)) (λ x. is_unit m x) b.units unit of.units there in
    let stands = stands_at m unit.kind unit.place (and_parts (nat_lt unit.power (length m.realms)) (may_stand m unit.kind unit.place) on).1 in
    let again = named_again m ok (unit_of m b power u) u unit there at stands in
    record {
      found = ap (λ n. unit_at b power n) at ∙ there;
      prov = at;
      place = stands;
      on = again.on;
      checks = subst (λ (o : Option AUnit). Hold (unit_checks m o (mention_of m unit.kind unit.place))) (sym (ap (λ n. unit_at b power n) again.at)) again.checks;
      named = again.at;
      same = ap (λ n. unwrap_or (unit_at b power n) no_unit) again.at;
    }

-- the dislodged unit that a line orders
pub record DislodgedAgain (m : Chart) (b : Position) (power : ℕ) (u : Mention) : Type 0 where
  pub found : dislodged_at b power (the_dislodged m b power u).unit.place.prov ≡ Some (the_dislodged m b power u)
  pub prov : (the_dislodged m b power u).unit.place.prov ≡ prov_named m u.at
  pub place : IsPlaceOf m (the_dislodged m b power u).unit.kind (the_dislodged m b power u).unit.place
  pub on : is_on_map m (spot_of m (the_dislodged m b power u).unit.kind (the_dislodged m b power u).unit.place) ≡ true
  pub checks : Hold (unit_checks m (option_map (λ d. d.unit) (dislodged_of m b power (mention_of m (the_dislodged m b power u).unit.kind (the_dislodged m b power u).unit.place)))
      (mention_of m (the_dislodged m b power u).unit.kind (the_dislodged m b power u).unit.place))
  pub same : the_dislodged m b power (mention_of m (the_dislodged m b power u).unit.kind (the_dislodged m b power u).unit.place) ≡ the_dislodged m b power u

some_mapped : (o : Option Dislodged) → is_some (option_map (λ d. d.unit) o) ≡ true → o ≡ Some (unwrap_or o no_dislodged)
some_mapped None h = absurd (cc)
some_mapped (Some d) h = refl

pub dislodged_again : (m : Chart) (b : Position) (power : ℕ) (u : Mention) → IsMap m → IsOf m b → Hold (unit_checks m (option_map (λ d. d.unit) (dislodged_of m b power u)) u) → DislodgedAgain m b power u
dislodged_again m b power u ok of h =
    let d : Dislodged = the_dislodged m b power u in
    let there : dislodged_of m b power u ≡ Some d = some_mapped (dislodged_of m b power u) h.0 in
    let own = find_passes (λ x. (x.unit.power == power) && (x.unit.place.prov == prov_named m u.at)) b.dislodged d there in
    let at : d.unit.place.prov ≡ prov_named m u.at = eqb-true _ _ (and_parts (d.unit.power == power) (d.unit.place.prov == prov_named m u.at) own).1 in
    let on = find_among (λ x. (x.unit.power == power) && (x.unit.place.prov == prov_named m u.at)) (λ x. is_dislodged m x) b.dislodged d of.dislodged there in
    let unit = (and_parts (is_unit m d.unit) (is_prov_if_any m d.origin) on).0 in
    let stands = stands_at m d.unit.kind d.unit.place (and_parts (nat_lt d.unit.power (length m.realms)) (may_stand m d.unit.kind d.unit.place) unit).1 in
    let again = named_again m ok (option_map (λ x. x.unit) (dislodged_of m b power u)) u d.unit (ap (λ o. option_map (λ x. x.unit) o) there) at stands in
    record {
      found = ap (λ n. dislodged_at b power n) at ∙ there;
      prov = at;
      place = stands;
      on = again.on;
      checks = subst (λ (o : Option Dislodged). Hold (unit_checks m (option_map (λ x. x.unit) o) (mention_of m d.unit.kind d.unit.place))) (sym (ap (λ n. dislodged_at b power n) again.at)) again.checks;
      same = ap (λ n. unwrap_or (dislodged_at b power n) no_dislodged) again.at;
    }

-- whatever is found among the places is one of the map where a fleet may be
abbrev pub AreFleetPlaces : Chart → List Place → Type 0
AreFleetPlaces m places = (p : Place → Bool) (a : Place) → find p places ≡ Some a → is_fleet_place m a ≡ true

-- where a fleet comes to is told by what is printed of it
pub record SailedAgain (m : Chart) (places : List Place) (q : ℕ) (coast : Option (List ℕ)) (none : OrderFault) : Type 0 where
  pub on : is_fleet_place m (place_in m places q coast) ≡ true
  pub at : (place_in m places q coast).prov ≡ q
  pub checks : Hold (sail_checks m places q (written (shore m (place_in m places q coast)).name) none)
  pub same : place_in m places q (written (shore m (place_in m places q coast)).name) ≡ place_in m places q coast

written_coast : (c : List ℕ) → is_coast (Some c) ≡ true → written c ≡ Some c
written_coast [] h = absurd (false≢true h)
written_coast (b ∷ bs) h = refl

pub written_named : (t c : List ℕ) → bytes_eq t c ≡ true → is_coast (Some c) ≡ true → written t ≡ Some c
written_named t c same fine = ap (λ x. written x) ((bytes_eq-Decides t c).0 same) ∙ written_coast c fine

sailed_bare : (m : Chart) (places : List Place) (q : ℕ) (none : OrderFault) (to : Place) (name : List ℕ) → first_in places q ≡ Some to → (shore m to).name ≡ name
    → Hold (sail_checks m places q None none) → Hold (sail_checks m places q (written name) none) × (place_in m places q (written name) ≡ to)
sailed_bare m places q none to [] first e h = (h, ap (λ o. unwrap_or o no_place) first)
sailed_bare m places q none to (b ∷ bs) first e h =
    let found : named_in m places q (b ∷ bs) ≡ Some to = find_narrow (λ x. x.prov == q) (λ x. bytes_eq (shore m x).name (b ∷ bs)) places to first ((bytes_eq-Decides (shore m to).name (b ∷ bs)).1 e) in
    ((h.0, (ap (λ o. is_some o) found, (refl, tt))), ap (λ o. unwrap_or o no_place) found)

pub sailed_again : (m : Chart) (places : List Place) (q : ℕ) (coast : Option (List ℕ)) (none : OrderFault) → AreFleetPlaces m places → is_coast coast ≡ true → Hold (sail_checks m places q coast none)
    → SailedAgain m places q coast none
sailed_again m places q None none within fine h =
    let to : Place = unwrap_or (first_in places q) no_place in
    let first : first_in places q ≡ Some to = some_is (first_in places q) no_place h.0 in
    let (checks, same) = sailed_bare m places q none to (shore m to).name first refl h in
    record {
      on = within (λ a. a.prov == q) to first;
      at = eqb-true to.prov q (find_passes (λ a. a.prov == q) places to first);
      checks = checks;
      same = same;
    }
sailed_again m places q (Some c) none within fine h =
    let to : Place = unwrap_or (named_in m places q c) no_place in
    let found : named_in m places q c ≡ Some to = some_is (named_in m places q c) no_place h.1.0 in
    let (here, name) = and_parts (to.prov == q) (bytes_eq (shore m to).name c) (find_passes (λ a. (a.prov == q) && bytes_eq (shore m a).name c) places to found) in
    let e : written (shore m to).name ≡ Some c = ap (λ x. written x) ((bytes_eq-Decides (shore m to).name c).0 name) ∙ written_coast c fine in
    record {
      on = within (λ a. (a.prov == q) && bytes_eq (shore m a).name c) to found;
      at = eqb-true to.prov q here;
      checks = subst (λ (x : Option (List ℕ)). Hold (sail_checks m places q x none)) (sym e) h;
      same = ap (λ x. place_in m places q x) e;
    }

pub fleet_nexts : (m : Chart) → IsMap m → (a : Place) → AreFleetPlaces m (fleet_next m a)
fleet_nexts m ok a p x h = find_among p (λ y. is_fleet_place m y) (fleet_next m a) x (ok.fleet_within a) h

pub fleet_opened : (m : Chart) → IsMap m → (a : Place) (keep : Place → Bool) → AreFleetPlaces m (filter keep (fleet_next m a))
fleet_opened m ok a keep p x h = fleet_nexts m ok a (λ y. keep y && p y) x (find_kept_in keep p (fleet_next m a) x h)

-- where a unit moves to is told by what is printed of it
pub record MovedAgain (m : Chart) (k : Kind) (a : Place) (q : ℕ) (coast : Option (List ℕ)) (via : Bool) : Type 0 where
  pub on : IsPlaceOf m k (move_place m k a q coast)
  pub at : (move_place m k a q coast).prov ≡ q
  pub checks : Hold (move_checks m k a q (coast_for m k (move_place m k a q coast)) via)
  pub same : move_place m k a q (coast_for m k (move_place m k a q coast)) ≡ move_place m k a q coast

pub moved_again : (m : Chart) → IsMap m → (k : Kind) (a : Place) (q : ℕ) (coast : Option (List ℕ)) (via : Bool) → is_coast coast ≡ true → q < length m.provinces → Hold (move_checks m k a q coast via)
    → MovedAgain m k a q coast via
moved_again m ok Army a q coast via fine low h = record { on = low; at = refl; checks = (refl, h.1); same = refl }
moved_again m ok Fleet a q coast via fine low h =
    let again = sailed_again m (fleet_next m a) q coast OutOfReach (fleet_nexts m ok a) fine h.1 in
    record { on = again.on; at = again.at; checks = (h.0, again.checks); same = again.same }

-- where a dislodged unit goes is told by what is printed of it
abbrev pub opened : Chart → Position → Option ℕ → Kind → Place → List Place
opened m b o k a = filter (λ x. is_open b o x.prov) (next_places m k a)

pub record LeftAgain (m : Chart) (k : Kind) (places : List Place) (q : ℕ) (coast : Option (List ℕ)) : Type 0 where
  pub on : IsPlaceOf m k (place_in m places q coast)
  pub at : (place_in m places q coast).prov ≡ q
  pub checks : Hold (retreat_checks m k places q (coast_for m k (place_in m places q coast)))
  pub same : place_in m places q (coast_for m k (place_in m places q coast)) ≡ place_in m places q coast

pub left_again : (m : Chart) → IsMap m → (b : Position) (o : Option ℕ) (k : Kind) (a : Place) (q : ℕ) (coast : Option (List ℕ)) → is_coast coast ≡ true → q < length m.provinces
    → Hold (retreat_checks m k (opened m b o k a) q coast) → LeftAgain m k (opened m b o k a) q coast
left_again m ok b o Army a q (Some c) fine low h = absurd (false≢true h.1.0)
left_again m ok b o Army a q None fine low h =
    let places : List Place = opened m b o Army a in
    let to : Place = unwrap_or (first_in places q) no_place in
    let at : to.prov ≡ q = eqb-true to.prov q (find_passes (λ x. x.prov == q) places to (some_is (first_in places q) no_place h.0)) in
    record { on = subst (λ (n : ℕ). n < length m.provinces) (sym at) low; at = at; checks = h; same = refl }
left_again m ok b o Fleet a q coast fine low h =
    let again = sailed_again m (opened m b o Fleet a) q coast NoSuchRetreat (fleet_opened m ok a (λ x. is_open b o x.prov)) fine h in
    record { on = again.on; at = again.at; checks = again.checks; same = again.same }

-- where a unit is built is told by what is printed of it
pub record BuiltAgain (m : Chart) (k : Kind) (p : ℕ) (coast : Option (List ℕ)) : Type 0 where
  pub on : IsPlaceOf m k (site m p coast)
  pub at : (site m p coast).prov ≡ p
  pub checks : Hold (site_checks m k p (coast_for m k (site m p coast)))
  pub same : site m p (coast_for m k (site m p coast)) ≡ site m p coast

-- a coastal province has one coast without a name, or several with names
coastal_shape : (t : Terrain) (r : Province) → is_coastal t ≡ true → is_shaped t r ≡ true → (has_one_shore r.shores || has_named_shores r.shores) ≡ true
coastal_shape Inland r h shape = absurd (false≢true h)
coastal_shape Coast r h shape = shape
coastal_shape Sea r h shape = absurd (false≢true h)

-- a coast that needn't be told has no name
only_shore : (ss : List Shore) → (has_one_shore ss || has_named_shores ss) ≡ true → nat_le (length ss) 1 ≡ true → (0 < length ss) × (written (get_or ss 0 no_shore).name ≡ None)
only_shore ss h few =
    elim (cases_Bool (has_one_shore ss)) [
      | inl one ↦
          let (count, all) = and_parts (length ss == 1) (list_all (λ s. length s.name == 0) ss) one in
          let low : 0 < length ss = omega (arith, eqb-true _ _ count) in
          (low, nameless (get_or ss 0 no_shore).name (eqb-true _ _ (test_at (λ s. length s.name == 0) ss 0 no_shore all low)))
      | inr several ↦
          let named : has_named_shores ss ≡ true = rw several at h in
          absurd (omega (arith, leb-true _ _ (and_parts (nat_le 2 (length ss)) _ named).0, leb-true _ _ few))
    ]
  where
    nameless : (t : List ℕ) → length t ≡ 0 → written t ≡ None
    nameless [] e = refl
    nameless (x ∷ xs) e = absurd (omega arith)

fleet_place : (m : Chart) (p i : ℕ) → p < length m.provinces → i < length (province m p).shores → is_fleet_place m (record { prov = p; coast = i }) ≡ true
fleet_place m p i low there = both_true (lt-ltb _ _ low) (lt-ltb _ _ there)

pub built_again : (m : Chart) → IsMap m → (k : Kind) (p : ℕ) (coast : Option (List ℕ)) → is_coast coast ≡ true → p < length m.provinces → (is_kind k Army || is_coastal (province m p).terrain) ≡ true
    → Hold (site_checks m k p coast) → BuiltAgain m k p coast
built_again m ok Army p (Some c) fine low may h = absurd (false≢true h.0)
built_again m ok Army p None fine low may h = record { on = low; at = refl; checks = h; same = refl }
built_again m ok Fleet p None fine low may h =
    let (there, bare) = only_shore (province m p).shores (coastal_shape (province m p).terrain (province m p) may (shape_of m ok p low)) h.1.0 in
    record {
      on = fleet_place m p 0 low there;
      at = refl;
      checks = subst (λ (x : Option (List ℕ)). Hold (site_checks m Fleet p x)) (sym bare) h;
      same = ap (λ x. site m p x) bare;
    }
built_again m ok Fleet p (Some c) fine low may h =
    let i : ℕ = unwrap_or (coast_of m p c) 0 in
    let found : coast_of m p c ≡ Some i = some_is (coast_of m p c) 0 h.0 in
    let (there, named, _) = position-Some (λ s. bytes_eq s.name c) (province m p).shores i no_shore found in
    let told : written (shore m (record { prov = p; coast = i })).name ≡ Some c = written_named (shore m (record { prov = p; coast = i })).name c named fine in
    record {
      on = fleet_place m p i low there;
      at = refl;
      checks = subst (λ (x : Option (List ℕ)). Hold (site_checks m Fleet p x)) (sym told) h;
      same = ap (λ x. site m p x) told;
    }
