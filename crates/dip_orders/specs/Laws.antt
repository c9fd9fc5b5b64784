-- The laws of orders, as statements.
use Rattle.std.specs.Prelude.{◌≡◌, ◌≢◌, ◌≤◌, ◌+◌, ℕ, pos, negsuc, suc, length, Bool, true, false, Contains, List, [], Some, Ok}
use Rattle.dip_names.specs.declared.names.Kind.{Kind}
use Rattle.dip_names.specs.declared.names.Kind.TheVariants.{Army, Fleet}
use Rattle.dip_names.specs.declared.names.Place.{Place}
use Rattle.dip_names.specs.declared.names.Unit.{Unit as AUnit}
use Rattle.dip_map.specs.Charts.{Chart, IsMap, are_provs_single, home, is_army_next, is_fleet_next, province}
use Rattle.dip_map.specs.declared.boards.Dislodged.{Dislodged}
use Rattle.dip_map.specs.declared.boards.Season.{Season}
use Rattle.dip_map.specs.declared.boards.Season.TheVariants.{SpringMoves, SpringRetreats, FallMoves, FallRetreats, Winter}
use Rattle.dip_map.specs.Boards.{Position, IsOf, centres_owned, owner, units_counted}
use Rattle.dip_orders_placed.specs.Allowances.{allowance}
use Rattle.dip_orders.specs.Lawful.{IsLawful}
use Rattle.dip_orders.specs.Reading.{order_of}
use Rattle.dip_orders_placed.specs.Standing.{IsOnly, is_in_force, are_in_force, standing_orders, units_of}
use Rattle.dip_orders.specs.Conditions.{is_movement}
use Rattle.dip_orders.specs.Texts.{order_text}
use Rattle.dip_orders_placed.specs.declared.placed.Order.{Order}
use Rattle.dip_orders_placed.specs.declared.placed.Order.TheVariants.{Hold, Move, SupportHold, SupportMove, Convoy, Retreat, Disband, Build, Remove}
use Rattle.dip_orders_placed.specs.declared.placed.Other.{Other}
use Rattle.dip_orders_placed.specs.declared.placed.PlacedOrder.{PlacedOrder}

-- the text of an order that was read is read again as that order
abbrev pub TextsAreReadAgain : Type 0
TextsAreReadAgain =
    (m : Chart) (b : Position) (power : ℕ) (pending : List PlacedOrder) (line : List ℕ) (o : PlacedOrder) → IsMap m → IsOf m b
    → order_of m b power pending line ≡ Ok o → order_of m b power pending (order_text m o) ≡ Ok o

-- an order that was read beside others is read without them too
abbrev pub OrdersStandAlone : Type 0
OrdersStandAlone =
    (m : Chart) (b : Position) (power : ℕ) (pending : List PlacedOrder) (line : List ℕ) (o : PlacedOrder)
    → order_of m b power pending line ≡ Ok o → order_of m b power [] line ≡ Ok o

-- two orders of a power on a board with one text are one order
abbrev pub TextsTellOrdersApart : Type 0
TextsTellOrdersApart =
    (m : Chart) (b : Position) (power : ℕ) (ps qs : List PlacedOrder) (line text : List ℕ) (o p : PlacedOrder) → IsMap m → IsOf m b
    → order_of m b power ps line ≡ Ok o → order_of m b power qs text ≡ Ok p → order_text m o ≡ order_text m p → o ≡ p

-- an order that was read is lawful
abbrev pub OrdersAreLawful : Type 0
OrdersAreLawful =
    (m : Chart) (b : Position) (power : ℕ) (pending : List PlacedOrder) (line : List ℕ) (o : PlacedOrder) → IsMap m → IsOf m b
    → order_of m b power pending line ≡ Ok o → IsLawful m b power pending o

-- the orders that stand are those of the units of the board, one for each
abbrev pub UnitsHaveOneOrder : Type 0
UnitsHaveOneOrder =
    (b : Position) (pending : List PlacedOrder) → units_of (standing_orders b pending) ≡ b.units

-- each order that stands is in force
abbrev pub StandingIsInForce : Type 0
StandingIsInForce =
    (b : Position) (pending : List PlacedOrder) → are_in_force (standing_orders b pending) ≡ true

-- an order in force of a unit of the board stands where no other is that unit's
abbrev pub OrdersInForceStand : Type 0
OrdersInForceStand =
    (b : Position) (pending : List PlacedOrder) (o : PlacedOrder) → Contains pending o → Contains b.units o.unit → is_in_force o ≡ true
    → IsOnly o pending → Contains (standing_orders b pending) o

-- an order that was read in a phase of movement is in force
abbrev pub OrdersReadAreInForce : Type 0
OrdersReadAreInForce =
    (m : Chart) (b : Position) (power : ℕ) (pending : List PlacedOrder) (line : List ℕ) (o : PlacedOrder) → IsMap m → IsOf m b
    → is_movement b.phase.season ≡ true → order_of m b power pending line ≡ Ok o → is_in_force o ≡ true

-- each lawful order is read from its own text
abbrev pub LawfulOrdersAreRead : Type 0
LawfulOrdersAreRead =
    (m : Chart) (b : Position) (power : ℕ) (pending : List PlacedOrder) (o : PlacedOrder)
    → IsMap m → IsOf m b → IsLawful m b power pending o
    → order_of m b power pending (order_text m o) ≡ Ok o

-- the power can give the order: some line is read as it
abbrev pub IsGiven : Chart → Position → ℕ → List PlacedOrder → PlacedOrder → Type 0
IsGiven m b power pending o = (line : List ℕ) × (order_of m b power pending line ≡ Ok o)

-- no unit stands in the province
abbrev pub IsEmpty : Position → ℕ → Type 0
IsEmpty b p = (u : AUnit) → Contains b.units u → u.place.prov ≢ p

-- a home centre of the power that it owns, in which no unit stands, and from which none was dislodged
pub record IsVacantHome (m : Chart) (b : Position) (power p : ℕ) : Type 0 where
  pub at_home : Contains (home m power) p
  pub centre : (province m p).centre ≡ true
  pub owned : owner b p ≡ Some power
  pub empty : IsEmpty b p
  pub left : (d : Dislodged) → Contains b.dislodged d → d.unit.place.prov ≢ p

-- different vacant home centres of the power
pub record AreVacantHomes (m : Chart) (b : Position) (power : ℕ) (ps : List ℕ) : Type 0 where
  pub single : are_provs_single ps ≡ true
  pub each : (p : ℕ) → Contains ps p → IsVacantHome m b power p

-- a power that may build n units has at least n vacant home centres, and n centres more than units
abbrev pub BuildsHaveRoom : Type 0
BuildsHaveRoom =
    (m : Chart) (b : Position) (power n : ℕ) → IsMap m → allowance m b power ≡ pos n
    → (ps : List ℕ) × AreVacantHomes m b power ps × (n ≤ length ps) × (n + units_counted b power ≤ centres_owned b power)

-- it may build a unit in each of these vacant home centres, where its units would then be no more than its centres
abbrev pub NoMoreHaveRoom : Type 0
NoMoreHaveRoom =
    (m : Chart) (b : Position) (power n : ℕ) (ps : List ℕ) → IsMap m → allowance m b power ≡ pos n
    → AreVacantHomes m b power ps → length ps + units_counted b power ≤ centres_owned b power → length ps ≤ n

-- a power that has to remove units has just so many units more than centres
abbrev pub RemovalsAreSurplus : Type 0
RemovalsAreSurplus = (m : Chart) (b : Position) (power n : ℕ) → allowance m b power ≡ negsuc n → units_counted b power ≡ centres_owned b power + suc n

-- no dislodged unit retreats to where its attacker came from
abbrev pub NoneRetreatsToItsAttacker : Type 0
NoneRetreatsToItsAttacker =
    (m : Chart) (b : Position) (power : ℕ) (pending : List PlacedOrder) (u : AUnit) (to : Place) (d : Dislodged)
    → IsMap m → IsOf m b → IsGiven m b power pending (record { unit = u; order = Retreat to })
    → Contains b.dislodged d → d.unit ≡ u → d.origin ≢ Some to.prov

-- a retreat leads to where no unit stands, and no standoff was
abbrev pub RetreatsAreToVacantProvinces : Type 0
RetreatsAreToVacantProvinces =
    (m : Chart) (b : Position) (power : ℕ) (pending : List PlacedOrder) (u : AUnit) (to : Place)
    → IsMap m → IsOf m b → IsGiven m b power pending (record { unit = u; order = Retreat to })
    → IsEmpty b to.prov × (Contains b.standoff to.prov → ⊥)

-- a build is in a vacant home centre of the power
abbrev pub BuildsAreInVacantHomes : Type 0
BuildsAreInVacantHomes =
    (m : Chart) (b : Position) (power : ℕ) (pending : List PlacedOrder) (u : AUnit)
    → IsMap m → IsOf m b → IsGiven m b power pending (record { unit = u; order = Build })
    → (u.power ≡ power) × IsVacantHome m b power u.place.prov

-- where a unit goes by itself: an army to a province next to its own, a fleet to a place next to the coast or the sea where it is
abbrev pub IsNeighbour : Chart → Kind → Place → Place → Type 0
IsNeighbour m Army a to = is_army_next m a.prov to.prov ≡ true
IsNeighbour m Fleet a to = is_fleet_next m a to ≡ true

-- a unit could itself be ordered to move to the province, without a convoy
pub record CouldMove (m : Chart) (b : Position) (power : ℕ) (pending : List PlacedOrder) (u : AUnit) (p : ℕ) : Type 0 where
  pub to : Place
  pub there : to.prov ≡ p
  pub next : IsNeighbour m u.kind u.place to
  pub given : IsGiven m b power pending (record { unit = u; order = Move to false })

-- a unit that supports another one where it stays could itself move there
abbrev pub HoldersCouldMove : Type 0
HoldersCouldMove =
    (m : Chart) (b : Position) (power : ℕ) (pending : List PlacedOrder) (u : AUnit) (at : Other)
    → IsMap m → IsOf m b → IsGiven m b power pending (record { unit = u; order = SupportHold at })
    → CouldMove m b power pending u at.prov

-- a unit that supports a move could itself move to where it leads
abbrev pub AidersCouldMove : Type 0
AidersCouldMove =
    (m : Chart) (b : Position) (power : ℕ) (pending : List PlacedOrder) (u : AUnit) (at : Other) (to : ℕ)
    → IsMap m → IsOf m b → IsGiven m b power pending (record { unit = u; order = SupportMove at to })
    → CouldMove m b power pending u to

-- what units do in a phase of movement
abbrev pub is_of_movement : Order → Bool
is_of_movement Hold = true
is_of_movement (Move to via) = true
is_of_movement (SupportHold at) = true
is_of_movement (SupportMove at to) = true
is_of_movement (Convoy at to) = true
is_of_movement (Retreat to) = false
is_of_movement Disband = false
is_of_movement Build = false
is_of_movement Remove = false

-- what dislodged units do in a phase of retreats
abbrev pub is_of_retreats : Order → Bool
is_of_retreats Hold = false
is_of_retreats (Move to via) = false
is_of_retreats (SupportHold at) = false
is_of_retreats (SupportMove at to) = false
is_of_retreats (Convoy at to) = false
is_of_retreats (Retreat to) = true
is_of_retreats Disband = true
is_of_retreats Build = false
is_of_retreats Remove = false

-- what a power does in Winter
abbrev pub is_of_winter : Order → Bool
is_of_winter Hold = false
is_of_winter (Move to via) = false
is_of_winter (SupportHold at) = false
is_of_winter (SupportMove at to) = false
is_of_winter (Convoy at to) = false
is_of_winter (Retreat to) = false
is_of_winter Disband = false
is_of_winter Build = true
is_of_winter Remove = true

-- the order is one of the phase
abbrev pub belongs : Season → Order → Bool
belongs SpringMoves o = is_of_movement o
belongs SpringRetreats o = is_of_retreats o
belongs FallMoves o = is_of_movement o
belongs FallRetreats o = is_of_retreats o
belongs Winter o = is_of_winter o

-- whatever is given is an order of the phase
abbrev pub OrdersAreOfTheirPhase : Type 0
OrdersAreOfTheirPhase =
    (m : Chart) (b : Position) (power : ℕ) (pending : List PlacedOrder) (o : PlacedOrder)
    → IsMap m → IsOf m b → IsGiven m b power pending o → belongs b.phase.season o.order ≡ true

-- no order of another phase is ever in force when a movement is decided
abbrev pub OnlyMovementIsInForce : Type 0
OnlyMovementIsInForce = (b : Position) (pending : List PlacedOrder) (o : PlacedOrder) → Contains (standing_orders b pending) o → is_of_movement o.order ≡ true
