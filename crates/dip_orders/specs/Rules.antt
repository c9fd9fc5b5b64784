-- The rules of reading an order line: for each form its checks, in order, and the order that it is where all of them hold.
use Rattle.std.specs.Prelude.{◌≡◌, ℕ, nat_le, nat_lt, ◌==◌, ◌&&◌, ◌||◌, not, Bool, List, [], ◌∷◌, ◌++◌, length, map, Option, None, Some, Result, Err, is_some, is_none, option_map, ◌⊎◌, if◌then◌else◌}
use Rattle.std.specs.Option.{unwrap_or}
use Rattle.dip_names.specs.declared.names.Kind.{Kind}
use Rattle.dip_names.specs.declared.names.Kind.TheVariants.{Army, Fleet}
use Rattle.dip_names.specs.declared.names.Place.{Place}
use Rattle.dip_names.specs.declared.names.Unit.{Unit as AUnit}
use Rattle.dip_map.specs.declared.boards.Dislodged.{Dislodged}
use Rattle.dip_map.specs.Charts.{Chart, province, fleet_next, coast_of}
use Rattle.dip_map.specs.Boards.{Position}
use Rattle.dip_orders_lines.specs.Forms.{Says, spots_of}
use Rattle.dip_orders_lines.specs.declared.forms.Mention.{Mention}
use Rattle.dip_orders_lines.specs.declared.forms.Form.{Form}
use Rattle.dip_orders_lines.specs.declared.forms.Form.TheVariants.{Hold, Move, SupportHold, SupportMove, Convoy, Retreat, Disband, Build, Remove}
use Rattle.dip_orders_placed.specs.Allowances.{builds_due, removals_due}
use Rattle.dip_orders.specs.Checks.{Check, must, outcome}
use Rattle.dip_orders_placed.specs.Retreats.{retreats_of}
use Rattle.dip_orders.specs.Conditions.{is_in_phase, is_on_map, prov_named, no_unit, no_dislodged, army_place, unit_at, dislodged_at, other_at, knows_coast, first_in, has_coast_in, is_settled_in, place_in, could_move, may_convoy, may_travel, could_come, may_build, builds_elsewhere, removals_elsewhere}
use Rattle.dip_names.specs.Kinds.{is_kind, is_sea}
use Rattle.dip_orders.specs.declared.faults.OrderFault.{OrderFault}
use Rattle.dip_orders.specs.declared.faults.OrderFault.TheVariants.{CannotBeRead, UnknownProvince, NoUnitThere, WrongKind, OutOfReach, CoastNeeded, WrongCoast, NoSuchUnit, SupportOutOfReach, NoConvoyThere, NotInThisPhase, NoBuildThere, AllowanceUsed, NoSuchRetreat}
use Rattle.dip_orders_placed.specs.declared.placed.Order.TheVariants.{Hold as Holds, Move as Moves, SupportHold as SupportsHold, SupportMove as SupportsMove, Convoy as Convoys, Retreat as Retreats, Disband as Disbands, Build as Builds, Remove as Removes}
use Rattle.dip_orders_placed.specs.declared.placed.PlacedOrder.{PlacedOrder}

-- every form belongs to the phase, and its codes are on the map
abbrev pub form_checks : Chart → Position → Form → List Check
form_checks m b d = must (is_in_phase d b.phase.season) NotInThisPhase ∷ map (λ s. must (is_on_map m s) UnknownProvince) (spots_of d)

-- the ordered unit is there and of the kind that is written, and the coast that is written is one of its province
abbrev pub unit_checks : Chart → Option AUnit → Mention → List Check
unit_checks m found u =
    must (is_some found) NoUnitThere
    ∷ must (is_kind (unwrap_or found no_unit).kind u.kind) WrongKind
    ∷ must (knows_coast m (prov_named m u.at) u.at.coast) WrongCoast
    ∷ []

-- an army moves on foot or by convoy, and no coast is written
abbrev pub march_checks : Chart → ℕ → ℕ → Option (List ℕ) → Bool → List Check
march_checks m p q coast via =
    must (is_none coast) WrongCoast
    ∷ (if via then must (may_convoy m p q) NoConvoyThere else must (may_travel m p q) OutOfReach)
    ∷ []

-- a fleet comes to one of these places in the province: that of the coast that is written, or the only one
abbrev pub sail_checks : Chart → List Place → ℕ → Option (List ℕ) → OrderFault → List Check
sail_checks m places q coast none =
    must (is_some (first_in places q)) none
    ∷ must (has_coast_in m places q coast) WrongCoast
    ∷ must (is_settled_in places q coast) CoastNeeded
    ∷ []

-- a move to the province q
abbrev pub move_checks : Chart → Kind → Place → ℕ → Option (List ℕ) → Bool → List Check
move_checks m Army a q coast via = march_checks m a.prov q coast via
move_checks m Fleet a q coast via = must (not via) WrongKind ∷ sail_checks m (fleet_next m a) q coast OutOfReach

-- where a move leads
abbrev pub move_place : Chart → Kind → Place → ℕ → Option (List ℕ) → Place
move_place m Army a q coast = army_place q
move_place m Fleet a q coast = place_in m (fleet_next m a) q coast

-- the other unit stands there, and the coast that is written is one of its province
abbrev pub other_checks : Chart → Position → Kind → ℕ → Option (List ℕ) → List Check
other_checks m b k p coast =
    must (is_some (other_at b k p)) NoSuchUnit
    ∷ must (knows_coast m p coast) WrongCoast
    ∷ []

-- a support of a move to q by another unit: the supporter could move there, the other could come there, and they are two
abbrev pub is_supportable : Chart → AUnit → AUnit → ℕ → Bool
is_supportable m u other q = could_move m u.kind u.place q && (not (other.place.prov == u.place.prov) && could_come m other q)

-- a retreat to the province q
abbrev pub retreat_checks : Chart → Kind → List Place → ℕ → Option (List ℕ) → List Check
retreat_checks m Army places q coast = must (is_some (first_in places q)) NoSuchRetreat ∷ must (is_none coast) WrongCoast ∷ []
retreat_checks m Fleet places q coast = sail_checks m places q coast NoSuchRetreat

-- where a unit is built: an army at no coast, a fleet at one that the province has, and that is written where there are two
abbrev pub site_checks : Chart → Kind → ℕ → Option (List ℕ) → List Check
site_checks m Army p coast = must (is_none coast) WrongCoast ∷ []
site_checks m Fleet p coast =
    must (knows_coast m p coast) WrongCoast
    ∷ must (is_some coast || nat_le (length (province m p).shores) 1) CoastNeeded
    ∷ []

abbrev pub site : Chart → ℕ → Option (List ℕ) → Place
site m p None = army_place p
site m p (Some name) = record { prov = p; coast = unwrap_or (coast_of m p name) 0 }

-- the unit that a line orders, where it is one on the board
abbrev pub unit_of : Chart → Position → ℕ → Mention → Option AUnit
unit_of m b power u = unit_at b power (prov_named m u.at)

abbrev pub the_unit : Chart → Position → ℕ → Mention → AUnit
the_unit m b power u = unwrap_or (unit_of m b power u) no_unit

-- the dislodged unit that it orders
abbrev pub dislodged_of : Chart → Position → ℕ → Mention → Option Dislodged
dislodged_of m b power u = dislodged_at b power (prov_named m u.at)

abbrev pub the_dislodged : Chart → Position → ℕ → Mention → Dislodged
the_dislodged m b power u = unwrap_or (dislodged_of m b power u) no_dislodged

-- the places that it may retreat to
abbrev pub retreats_for : Chart → Position → ℕ → Mention → List Place
retreats_for m b power u = retreats_of m b (the_dislodged m b power u)

-- the unit that a support names
abbrev pub the_other : Chart → Position → Mention → AUnit
the_other m b other = unwrap_or (other_at b other.kind (prov_named m other.at)) no_unit

-- the checks that belong to a form
abbrev pub own_checks : Chart → Position → ℕ → List PlacedOrder → Form → List Check
own_checks m b power pending (Hold u) = unit_checks m (unit_of m b power u) u
own_checks m b power pending (Move u to via) =
    unit_checks m (unit_of m b power u) u
    ++ move_checks m (the_unit m b power u).kind (the_unit m b power u).place (prov_named m to) to.coast via
own_checks m b power pending (SupportHold u other held) =
    unit_checks m (unit_of m b power u) u
    ++ (other_checks m b other.kind (prov_named m other.at) other.at.coast
    ++ must (could_move m (the_unit m b power u).kind (the_unit m b power u).place (prov_named m other.at)) SupportOutOfReach
    ∷ [])
own_checks m b power pending (SupportMove u other to) =
    unit_checks m (unit_of m b power u) u
    ++ (other_checks m b other.kind (prov_named m other.at) other.at.coast
    ++ must (is_supportable m (the_unit m b power u) (the_other m b other) (prov_named m to)) SupportOutOfReach
    ∷ [])
own_checks m b power pending (Convoy u army to) =
    unit_checks m (unit_of m b power u) u
    ++ must (is_kind (the_unit m b power u).kind Fleet) WrongKind
    ∷ must (is_sea (province m (the_unit m b power u).place.prov).terrain) NoConvoyThere
    ∷ (other_checks m b Army (prov_named m army) army.coast
    ++ must (knows_coast m (prov_named m to) to.coast) WrongCoast
    ∷ must (may_convoy m (prov_named m army) (prov_named m to)) NoConvoyThere
    ∷ [])
own_checks m b power pending (Retreat u to) =
    unit_checks m (option_map (λ d. d.unit) (dislodged_of m b power u)) u
    ++ retreat_checks m (the_dislodged m b power u).unit.kind (retreats_for m b power u) (prov_named m to) to.coast
own_checks m b power pending (Disband u) = unit_checks m (option_map (λ d. d.unit) (dislodged_of m b power u)) u
own_checks m b power pending (Build u) =
    must (may_build m b power u.kind (prov_named m u.at)) NoBuildThere
    ∷ (site_checks m u.kind (prov_named m u.at) u.at.coast
    ++ must (nat_lt (builds_elsewhere pending (prov_named m u.at)) (builds_due m b power)) AllowanceUsed
    ∷ [])
own_checks m b power pending (Remove u) =
    unit_checks m (unit_of m b power u) u
    ++ must (nat_lt (removals_elsewhere pending (prov_named m u.at)) (removals_due b power)) AllowanceUsed
    ∷ []

-- all checks of a line, in order
abbrev pub checks_of : Chart → Position → ℕ → List PlacedOrder → Form → List Check
checks_of m b power pending d = form_checks m b d ++ own_checks m b power pending d

-- the order that a line is where all its checks hold
abbrev pub order_in : Chart → Position → ℕ → Form → PlacedOrder
order_in m b power (Hold u) = record { unit = the_unit m b power u; order = Holds }
order_in m b power (Move u to via) = record {
  unit = the_unit m b power u;
  order = Moves (move_place m (the_unit m b power u).kind (the_unit m b power u).place (prov_named m to) to.coast) via;
}
order_in m b power (SupportHold u other held) = record { unit = the_unit m b power u; order = SupportsHold (record { kind = other.kind; prov = prov_named m other.at }) }
order_in m b power (SupportMove u other to) = record {
  unit = the_unit m b power u;
  order = SupportsMove (record { kind = other.kind; prov = prov_named m other.at }) (prov_named m to);
}
order_in m b power (Convoy u army to) = record { unit = the_unit m b power u; order = Convoys (record { kind = Army; prov = prov_named m army }) (prov_named m to) }
order_in m b power (Retreat u to) = record {
  unit = (the_dislodged m b power u).unit;
  order = Retreats (place_in m (retreats_for m b power u) (prov_named m to) to.coast);
}
order_in m b power (Disband u) = record { unit = (the_dislodged m b power u).unit; order = Disbands }
order_in m b power (Build u) = record { unit = record { power = power; kind = u.kind; place = site m (prov_named m u.at) u.at.coast }; order = Builds }
order_in m b power (Remove u) = record { unit = the_unit m b power u; order = Removes }

-- the order that a form is on a board, or its first fault
abbrev pub answer : Chart → Position → ℕ → List PlacedOrder → Form → Result PlacedOrder OrderFault
answer m b power pending d = outcome (checks_of m b power pending d) (order_in m b power d)

-- what a line is on this board: the answer to what it says, or it says nothing
abbrev pub IsReading : Chart → Position → ℕ → List PlacedOrder → List ℕ → Result PlacedOrder OrderFault → Type 0
IsReading m b power pending line r =
    ((d : Form) × Says line d × (answer m b power pending d ≡ r)) ⊎ (((d : Form) → Says line d → ⊥) × (r ≡ Err CannotBeRead))
