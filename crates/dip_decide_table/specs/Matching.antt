-- What the orders of a movement come to: who goes where and how, and which supports and convoys match.
use Rattle.std.specs.Prelude.{ℕ, ◌==◌, ◌&&◌, ◌||◌, not, Bool, false, List, map, find, Option, None, Some, is_some}
use Rattle.std.specs.List.{list_any}
use Rattle.dip_names.specs.declared.names.Kind.{Kind}
use Rattle.dip_names.specs.declared.names.Kind.TheVariants.{Army, Fleet}
use Rattle.dip_map.specs.Charts.{Chart, province, is_army_next}
use Rattle.dip_names.specs.Kinds.{is_kind, is_sea}
use Rattle.dip_orders_placed.specs.declared.placed.Other.{Other}
use Rattle.dip_orders_placed.specs.declared.placed.Order.{Order}
use Rattle.dip_orders_placed.specs.declared.placed.Order.TheVariants.{Move, SupportHold, SupportMove, Convoy}
use Rattle.dip_orders_placed.specs.declared.placed.PlacedOrder.{PlacedOrder}
use Rattle.dip_decide_table.specs.Situations.{Situation, is_at}

-- the order of the unit in each province, where a unit is there
abbrev pub Standing : Type 0
Standing = ℕ → Option PlacedOrder

-- the order of the unit in a province
abbrev pub order_at : List PlacedOrder → Standing
order_at orders p = find (λ o. o.unit.place.prov == p) orders

-- the provinces of the units
abbrev pub provinces_of : List PlacedOrder → List ℕ
provinces_of orders = map (λ o. o.unit.place.prov) orders

-- where an order sends its unit
abbrev pub destination : Order → Option ℕ
destination (Move to via) = Some to.prov
destination _ = None

abbrev pub target_of : Option PlacedOrder → Option ℕ
target_of None = None
target_of (Some o) = destination o.order

-- an order sends a unit by convoy: an army, told so or to where it can't walk
abbrev pub goes_by_convoy : Chart → Kind → ℕ → Order → Bool
goes_by_convoy m Army p (Move to via) = via || not (is_army_next m p to.prov)
goes_by_convoy m _ p _ = false

abbrev pub is_convoyed : Chart → Option PlacedOrder → Bool
is_convoyed m None = false
is_convoyed m (Some o) = goes_by_convoy m o.unit.kind o.unit.place.prov o.order

-- the unit that a support or a convoy names is there
abbrev pub is_there : Other → Option PlacedOrder → Bool
is_there at None = false
is_there at (Some o) = is_kind o.unit.kind at.kind

-- a support matches: of a unit that has no move, or of one with that very move
abbrev pub is_matched : Standing → Order → ℕ → Bool
is_matched who (SupportHold at) p = (at.prov == p) && (is_there at (who p) && not (is_some (target_of (who p))))
is_matched who (SupportMove at to) p = (at.prov == p) && (is_there at (who p) && is_at (target_of (who p)) to)
is_matched who _ p = false

abbrev pub supports_in : Standing → Option PlacedOrder → ℕ → Bool
supports_in who None p = false
supports_in who (Some o) p = is_matched who o.order p

-- the province into which an order supports a move
abbrev pub direction : Order → Option ℕ
direction (SupportMove at to) = Some to
direction _ = None

abbrev pub aim_of : Option PlacedOrder → Option ℕ
aim_of None = None
aim_of (Some o) = direction o.order

-- a convoy matches: of an army that makes that very move by convoy
abbrev pub is_carried : Chart → Standing → Order → ℕ → Bool
is_carried m who (Convoy at to) p = (at.prov == p) && (is_there at (who p) && (is_convoyed m (who p) && is_at (target_of (who p)) to))
is_carried m who _ p = false

-- by a fleet in a sea
abbrev pub convoys_in : Chart → Standing → Option PlacedOrder → ℕ → Bool
convoys_in m who None p = false
convoys_in m who (Some o) p = is_kind o.unit.kind Fleet && (is_sea (province m o.unit.place.prov).terrain && is_carried m who o.order p)

-- two units are of one power
abbrev pub is_one_power : Option PlacedOrder → Option PlacedOrder → Bool
is_one_power None y = false
is_one_power (Some x) None = false
is_one_power (Some x) (Some y) = x.unit.power == y.unit.power

-- a fleet goes from one province to the other, from any coast to any
abbrev pub is_sea_next : Chart → ℕ → ℕ → Bool
is_sea_next m p q = list_any (λ s. list_any (λ b. b.prov == q) s.next) (province m p).shores

-- the situation of a map with units in these provinces, with these orders
abbrev pub situation_by : Chart → List ℕ → Standing → Situation
situation_by m places who = record {
  places = places;
  is_occupied = λ p. is_some (who p);
  same_power = λ p q. is_one_power (who p) (who q);
  target = λ p. target_of (who p);
  convoyed = λ p. is_convoyed m (who p);
  supports = λ h p. supports_in who (who h) p;
  aim = λ h. aim_of (who h);
  convoys = λ x p. convoys_in m who (who x) p;
  next = λ p q. is_sea_next m p q;
}

-- the situation of a map with orders, one for each unit
abbrev pub situation : Chart → List PlacedOrder → Situation
situation m orders = situation_by m (provinces_of orders) (order_at orders)
