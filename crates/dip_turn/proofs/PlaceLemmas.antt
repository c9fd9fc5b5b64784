-- Where orders lead is a place of the map for their unit.
use Rattle.std.proofs.Common.{◌≡◌, ℕ, ◌<◌, ◌==◌, ◌&&◌, Bool, true, false, not, length, List, nat_lt, refl, sym, ap, ◌∙◌, inl, inr}
use Rattle.std.proofs.lemmas.Bool.{and_from, and_parts, cases_Bool, eq-eqb, lt-ltb, ltb-false, ltb-true, false≢true}
use Rattle.std.proofs.lemmas.List.{get_or_past}
use Rattle.std.specs.List.{list_any}
use Rattle.dip_names.specs.Kinds.{is_coastal, is_sea}
use Rattle.dip_names.specs.declared.names.Kind.{Kind}
use Rattle.dip_names.specs.declared.names.Kind.TheVariants.{Army, Fleet}
use Rattle.dip_names.specs.declared.names.Place.{Place}
use Rattle.dip_names.specs.declared.names.Terrain.{Terrain}
use Rattle.dip_names.specs.declared.names.Terrain.TheVariants.{Inland, Coast, Sea}
use Rattle.dip_names.specs.declared.names.Unit.{Unit as AUnit}
use Rattle.dip_map.specs.Charts.{Chart, IsMap, Province, Realm, army_next, home, is_army_next, is_army_place, is_centre, is_shaped, is_unit, may_stand, no_realm, province, realm}
use Rattle.dip_map.specs.declared.boards.Dislodged.{Dislodged}
use Rattle.dip_map.specs.Boards.{Position}
use Rattle.dip_orders.specs.Conditions.{army_place, may_convoy, may_travel}
use Rattle.dip_orders.specs.Lawful.{IsAllowed, IsSite, MayCome, Reaches}
use Rattle.dip_orders_placed.specs.Retreats.{is_place_among, next_places, retreats_of}
use Rattle.dip_orders_placed.specs.declared.placed.Order.{Order}
use Rattle.dip_orders_placed.specs.declared.placed.Order.TheVariants.{Hold, Move, SupportHold, SupportMove, Convoy, Retreat, Disband, Build, Remove}
use Rattle.dip_orders_placed.specs.declared.placed.PlacedOrder.{PlacedOrder}
use Rattle.dip_map.proofs.BoardLaws.{centre_low}
use Rattle.dip_orders.proofs.LawfulReadLaws.{coast_low, fleets_next, foot_coast, foot_near, home_centre, next_low}
use Rattle.dip_orders_placed.proofs.RetreatLaws.{retreats_exact}
use Rattle.dip_orders.proofs.SpotLaws.{shape_of}
use Rattle.dip_turn_phases.specs.Moving.{leads_to}

coast_dry : (t : Terrain) → is_coastal t ≡ true → is_sea t ≡ false
coast_dry Inland h = refl
coast_dry Coast h = refl
coast_dry Sea h = absurd (false≢true h)

army_stands : (m : Chart) (a : Place) → a.prov < length m.provinces → a.coast ≡ 0 → is_sea (province m a.prov).terrain ≡ false → is_army_place m a ≡ true
army_stands m a low coast dry =
    and_from (nat_lt a.prov (length m.provinces)) _ (lt-ltb _ _ low) (and_from (a.coast == 0) _ (eq-eqb _ _ coast) (ap not dry))

convoy_ends : (m : Chart) (p q : ℕ) → may_convoy m p q ≡ true → is_coastal (province m q).terrain ≡ true
convoy_ends m p q h =
    (and_parts (is_coastal (province m q).terrain) (not (p == q)) (and_parts (is_coastal (province m p).terrain) (is_coastal (province m q).terrain && not (p == q)) h).1).0

convoy_stands : (m : Chart) (p : ℕ) (to : Place) → to ≡ army_place to.prov → may_convoy m p to.prov ≡ true → is_army_place m to ≡ true
convoy_stands m p to at h =
    let coast = convoy_ends m p to.prov h in
    army_stands m to (coast_low m to.prov coast) (ap (λ (x : Place). x.coast) at) (coast_dry (province m to.prov).terrain coast)

walk_stands : (m : Chart) (p : ℕ) (to : Place) → IsMap m → to.coast ≡ 0 → is_army_next m p to.prov ≡ true → is_army_place m to ≡ true
walk_stands m p to ok at h = army_stands m to (next_low m p to.prov ok h) at (ok.army_away p to.prov h).1

march_stands : (m : Chart) (p : ℕ) (to : Place) → IsMap m → to ≡ army_place to.prov → may_travel m p to.prov ≡ true → is_army_place m to ≡ true
march_stands m p to ok at h =
    elim (cases_Bool (is_army_next m p to.prov)) [
      | inl near ↦ walk_stands m p to ok (ap (λ (x : Place). x.coast) at) near
      | inr far ↦ convoy_stands m p to at (rw far at h)
    ]

-- where a move leads
pub reaches_place : (m : Chart) (k : Kind) (a to : Place) (via : Bool) → IsMap m → Reaches m k a to via → may_stand m k to ≡ true
reaches_place m Army a to true ok h = convoy_stands m a.prov to h.0 h.1
reaches_place m Army a to false ok h = march_stands m a.prov to ok h.0 h.1
reaches_place m Fleet a to via ok h = fleets_next m ok a to h.1

next_place : (m : Chart) (k : Kind) (a to : Place) → IsMap m → is_place_among to (next_places m k a) ≡ true → may_stand m k to ≡ true
next_place m Army a to ok h = walk_stands m a.prov to ok (foot_coast (army_next m a.prov) to h) (foot_near (army_next m a.prov) to h)
next_place m Fleet a to ok h = fleets_next m ok a to h

-- where a retreat leads
pub retreat_place : (m : Chart) (b : Position) (d : Dislodged) (to : Place) → IsMap m → is_place_among to (retreats_of m b d) ≡ true → may_stand m d.unit.kind to ≡ true
retreat_place m b d to ok h = next_place m d.unit.kind d.unit.place to ok ((retreats_exact m b d to).0 h).next

-- a centre is no sea
centre_dry : (t : Terrain) (r : Province) → is_shaped t r ≡ true → r.centre ≡ true → is_sea t ≡ false
centre_dry Inland r h c = refl
centre_dry Coast r h c = refl
centre_dry Sea r h c =
    let (one, more) = and_parts _ _ h in
    let (land, none) = and_parts _ (not r.centre) more in
    absurd (false≢true (sym (ap not c) ∙ none))

-- a power with a home centre is one of the map
pub home_power : (m : Chart) (power p : ℕ) → list_any (λ x. x == p) (home m power) ≡ true → power < length m.realms
home_power m power p h =
    elim (cases_Bool (nat_lt power (length m.realms))) [
      | inl low ↦ ltb-true _ _ low
      | inr past ↦
          let none : realm m power ≡ no_realm = get_or_past m.realms power no_realm (ltb-false _ _ past) in
          absurd (false≢true (sym (ap (λ (r : Realm). list_any (λ x. x == p) r.home) none) ∙ h))
    ]

site_place : (m : Chart) (k : Kind) (a : Place) → IsMap m → is_centre m a.prov ≡ true → IsSite m k a → may_stand m k a ≡ true
site_place m Army a ok centre at =
    let low = centre_low m a.prov centre in
    army_stands m a low (ap (λ (x : Place). x.coast) at) (centre_dry (province m a.prov).terrain (province m a.prov) (shape_of m ok a.prov low) centre)
site_place m Fleet a ok centre at = at

-- a unit that is built is one of the map
pub built_unit : (m : Chart) (b : Position) (power : ℕ) (pending : List PlacedOrder) (u : AUnit) → IsMap m → MayCome m b power pending u → is_unit m u ≡ true
built_unit m b power pending u ok come =
    let (home, more) = and_parts (list_any (λ x. x == u.place.prov) (home m power)) _ come.home in
    and_from (nat_lt u.power (length m.realms)) _
    (ap (λ (r : ℕ). nat_lt r (length m.realms)) come.power ∙ lt-ltb _ _ (home_power m power u.place.prov home))
    (site_place m u.kind u.place ok (home_centre m power u.place.prov ok home) come.place)

-- a unit of the map is one where its order leads
pub led_unit : (m : Chart) (b : Position) (power : ℕ) (pending : List PlacedOrder) (u : AUnit) (k : Order) → IsMap m → is_unit m u ≡ true → IsAllowed m b power pending u k
    → is_unit m (record { power = u.power; kind = u.kind; place = leads_to u.place k }) ≡ true
led_unit m b power pending u Hold ok on h = on
led_unit m b power pending u (Move to via) ok on h =
    and_from (nat_lt u.power (length m.realms)) _ (and_parts (nat_lt u.power (length m.realms)) (may_stand m u.kind u.place) on).0
    (reaches_place m u.kind u.place to via ok h.1.1)
led_unit m b power pending u (SupportHold at) ok on h = on
led_unit m b power pending u (SupportMove at to) ok on h = on
led_unit m b power pending u (Convoy at to) ok on h = on
led_unit m b power pending u (Retreat to) ok on h = on
led_unit m b power pending u Disband ok on h = on
led_unit m b power pending u Build ok on h = on
led_unit m b power pending u Remove ok on h = on
