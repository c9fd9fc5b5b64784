-- What holds of each order that is read: the unit is there, or may be built, and what it is to do the rules allow.
use Rattle.std.specs.Prelude.{◌≡◌, ℕ, ◌<◌, ◌==◌, not, Bool, true, false, List, Some, if◌then◌else◌}
use Rattle.dip_names.specs.declared.names.Kind.{Kind}
use Rattle.dip_names.specs.declared.names.Kind.TheVariants.{Army, Fleet}
use Rattle.dip_names.specs.declared.names.Place.{Place}
use Rattle.dip_names.specs.declared.names.Unit.{Unit as AUnit}
use Rattle.dip_map.specs.declared.boards.Dislodged.{Dislodged}
use Rattle.dip_map.specs.Charts.{Chart, province, is_fleet_next, is_fleet_place}
use Rattle.dip_map.specs.Boards.{Position}
use Rattle.dip_orders_placed.specs.Allowances.{builds_due, removals_due}
use Rattle.dip_orders_placed.specs.Retreats.{is_place_among, retreats_of}
use Rattle.dip_orders.specs.Conditions.{is_movement, is_retreat, is_adjustment, army_place, unit_at, dislodged_at, other_at, could_move, could_come, may_convoy, may_travel, may_build, builds_elsewhere, removals_elsewhere}
use Rattle.dip_names.specs.Kinds.{is_sea}
use Rattle.dip_orders_placed.specs.declared.placed.Other.{Other}
use Rattle.dip_orders_placed.specs.declared.placed.Order.{Order}
use Rattle.dip_orders_placed.specs.declared.placed.Order.TheVariants.{Hold, Move, SupportHold, SupportMove, Convoy, Retreat, Disband, Build, Remove}
use Rattle.dip_orders_placed.specs.declared.placed.PlacedOrder.{PlacedOrder}

-- a destination can be reached: an army's by land or by a convoy between two coasts, a fleet's by one of its neighbours
abbrev pub Reaches : Chart → Kind → Place → Place → Bool → Type 0
Reaches m Army a to via = (to ≡ army_place to.prov) × ((if via then may_convoy m a.prov to.prov else may_travel m a.prov to.prov) ≡ true)
Reaches m Fleet a to via = (not via ≡ true) × (is_fleet_next m a to ≡ true)

-- the power's standing unit
pub record Stands (b : Position) (power : ℕ) (u : AUnit) : Type 0 where
  pub there : unit_at b power u.place.prov ≡ Some u

-- the power's dislodged unit
pub record IsDislodged (b : Position) (power : ℕ) (d : Dislodged) (u : AUnit) : Type 0 where
  pub there : dislodged_at b power u.place.prov ≡ Some d
  pub unit : d.unit ≡ u

-- a unit of that kind stands in that province
pub record IsThere (b : Position) (at : Other) (x : AUnit) : Type 0 where
  pub there : other_at b at.kind at.prov ≡ Some x

-- a support of a unit that stays: it is there, and the supporter could move to it
pub record MayHold (m : Chart) (b : Position) (u : AUnit) (at : Other) : Type 0 where
  pub other : AUnit
  pub there : IsThere b at other
  pub reach : could_move m u.kind u.place at.prov ≡ true

-- a support of a move: the unit is there and isn't the supporter, which could move to where the unit could come
pub record MayAid (m : Chart) (b : Position) (u : AUnit) (at : Other) (to : ℕ) : Type 0 where
  pub other : AUnit
  pub there : IsThere b at other
  pub apart : (other.place.prov == u.place.prov) ≡ false
  pub reach : could_move m u.kind u.place to ≡ true
  pub comes : could_come m other to ≡ true

-- a convoy: a fleet at sea, for an army that is there, between two coasts
pub record MayCarry (m : Chart) (b : Position) (u : AUnit) (at : Other) (to : ℕ) : Type 0 where
  pub fleet : u.kind ≡ Fleet
  pub sea : is_sea (province m u.place.prov).terrain ≡ true
  pub army : at.kind ≡ Army
  pub other : AUnit
  pub there : IsThere b at other
  pub coasts : may_convoy m at.prov to ≡ true

-- a retreat: the unit was dislodged, and the place is one of its retreats
pub record MayLeave (m : Chart) (b : Position) (power : ℕ) (u : AUnit) (to : Place) : Type 0 where
  pub dislodged : Dislodged
  pub there : IsDislodged b power dislodged u
  pub retreat : is_place_among to (retreats_of m b dislodged) ≡ true

-- where a unit may be built: an army at no coast, a fleet at one that the province has
abbrev pub IsSite : Chart → Kind → Place → Type 0
IsSite m Army a = a ≡ army_place a.prov
IsSite m Fleet a = is_fleet_place m a ≡ true

-- a build: a unit of the power, in a home centre where it may be built, and fewer builds stand elsewhere than are due
pub record MayCome (m : Chart) (b : Position) (builder : ℕ) (pending : List PlacedOrder) (u : AUnit) : Type 0 where
  pub power : u.power ≡ builder
  pub home : may_build m b builder u.kind u.place.prov ≡ true
  pub place : IsSite m u.kind u.place
  pub due : builds_elsewhere pending u.place.prov < builds_due m b builder

-- a removal: the unit is there, and fewer removals stand elsewhere than are due
pub record MayGo (m : Chart) (b : Position) (power : ℕ) (pending : List PlacedOrder) (u : AUnit) : Type 0 where
  pub unit : Stands b power u
  pub due : removals_elsewhere pending u.place.prov < removals_due b power

-- a unit is allowed what it is to do
abbrev pub IsAllowed : Chart → Position → ℕ → List PlacedOrder → AUnit → Order → Type 0
IsAllowed m b power pending u Hold = (is_movement b.phase.season ≡ true) × Stands b power u
IsAllowed m b power pending u (Move to via) = (is_movement b.phase.season ≡ true) × (Stands b power u × Reaches m u.kind u.place to via)
IsAllowed m b power pending u (SupportHold at) = (is_movement b.phase.season ≡ true) × (Stands b power u × MayHold m b u at)
IsAllowed m b power pending u (SupportMove at to) = (is_movement b.phase.season ≡ true) × (Stands b power u × MayAid m b u at to)
IsAllowed m b power pending u (Convoy at to) = (is_movement b.phase.season ≡ true) × (Stands b power u × MayCarry m b u at to)
IsAllowed m b power pending u (Retreat to) = (is_retreat b.phase.season ≡ true) × MayLeave m b power u to
IsAllowed m b power pending u Disband = (is_retreat b.phase.season ≡ true) × ((d : Dislodged) × IsDislodged b power d u)
IsAllowed m b power pending u Build = (is_adjustment b.phase.season ≡ true) × MayCome m b power pending u
IsAllowed m b power pending u Remove = (is_adjustment b.phase.season ≡ true) × MayGo m b power pending u

-- the order of a power is lawful on the board, beside those that stand
abbrev pub IsLawful : Chart → Position → ℕ → List PlacedOrder → PlacedOrder → Type 0
IsLawful m b power pending o = IsAllowed m b power pending o.unit o.order
