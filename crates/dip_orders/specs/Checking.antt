-- The reading of an order line step by step, as the code goes: each function of it gives one of these.
use Rattle.std.specs.Prelude.{ℕ, nat_le, nat_lt, Bool, true, false, List, length, Option, None, Some, Result, Ok, Err, is_none, if◌then◌else◌}
use Rattle.std.specs.Option.{ok_or}
use Rattle.dip_names.specs.declared.names.Kind.{Kind}
use Rattle.dip_names.specs.declared.names.Kind.TheVariants.{Army, Fleet}
use Rattle.dip_names.specs.declared.names.Place.{Place}
use Rattle.dip_names.specs.declared.names.Unit.{Unit as AUnit}
use Rattle.dip_map.specs.declared.boards.Dislodged.{Dislodged}
use Rattle.dip_map.specs.Charts.{Chart, province, fleet_next, is_army_next, prov_of, coast_of}
use Rattle.dip_map.specs.Boards.{Position}
use Rattle.dip_orders_lines.specs.declared.forms.Spot.{Spot}
use Rattle.dip_orders_lines.specs.declared.forms.Mention.{Mention}
use Rattle.dip_orders_lines.specs.declared.forms.Form.{Form}
use Rattle.dip_orders_lines.specs.declared.forms.Form.TheVariants.{Hold, Move, SupportHold, SupportMove, Convoy, Retreat, Disband, Build, Remove}
use Rattle.dip_orders_placed.specs.Allowances.{builds_due, removals_due}
use Rattle.dip_orders_placed.specs.Retreats.{is_open}
use Rattle.dip_orders.specs.Rules.{is_supportable}
use Rattle.dip_orders.specs.Conditions.{is_in_phase, army_place, unit_at, dislodged_at, other_at, knows_coast, first_in, count_in, named_in, could_move, may_convoy, may_travel, may_build, builds_elsewhere, removals_elsewhere}
use Rattle.dip_names.specs.Kinds.{is_kind, is_sea}
use Rattle.dip_orders.specs.declared.faults.OrderFault.{OrderFault}
use Rattle.dip_orders.specs.declared.faults.OrderFault.TheVariants.{UnknownProvince, NoUnitThere, WrongKind, OutOfReach, CoastNeeded, WrongCoast, NoSuchUnit, SupportOutOfReach, NoConvoyThere, NotInThisPhase, NoBuildThere, AllowanceUsed, NoSuchRetreat}
use Rattle.dip_orders_placed.specs.declared.placed.Order.TheVariants.{Hold as Holds, Move as Moves, SupportHold as SupportsHold, SupportMove as SupportsMove, Convoy as Convoys, Retreat as Retreats, Disband as Disbands, Build as Builds, Remove as Removes}
use Rattle.dip_orders_placed.specs.declared.placed.PlacedOrder.{PlacedOrder}
use Rattle.dip_names.specs.Results.{◌>>=◌}

-- this value where the test holds, else the fault
abbrev pub need : {A : Type 0} → Bool → OrderFault → A → Result A OrderFault
need true e x = Ok x
need false e x = Err e

-- the province of a code
abbrev pub prov_at : Chart → Spot → Result ℕ OrderFault
prov_at m s = ok_or (prov_of m s.code) UnknownProvince

-- the unit that was found, as it is written
abbrev pub checked_unit : Chart → Option AUnit → Mention → ℕ → Result AUnit OrderFault
checked_unit m found u p = do
  unit ← ok_or found NoUnitThere
  kept ← need (is_kind unit.kind u.kind) WrongKind unit
  need (knows_coast m p u.at.coast) WrongCoast kept

-- where an army goes
abbrev pub march_to : Chart → ℕ → ℕ → Option (List ℕ) → Bool → Result Place OrderFault
march_to m p q coast true = do
  bare ← need (is_none coast) WrongCoast q
  need (may_convoy m p q) NoConvoyThere (army_place bare)
march_to m p q coast false = do
  bare ← need (is_none coast) WrongCoast q
  need (may_travel m p q) OutOfReach (army_place bare)

-- where a fleet goes, of the places of a province that it can come to
abbrev pub coast_to : Chart → List Place → ℕ → Option (List ℕ) → Place → Result Place OrderFault
coast_to m places q None only = need (nat_le (count_in places q) 1) CoastNeeded only
coast_to m places q (Some name) _ = ok_or (named_in m places q name) WrongCoast

abbrev pub sail_to : Chart → List Place → ℕ → Option (List ℕ) → OrderFault → Result Place OrderFault
sail_to m places q coast none = do
  reached ← ok_or (first_in places q) none
  coast_to m places q coast reached

-- where a unit goes
abbrev pub go_to : Chart → Kind → Place → ℕ → Option (List ℕ) → Bool → Result Place OrderFault
go_to m Army a q coast via = march_to m a.prov q coast via
go_to m Fleet a q coast true = Err WrongKind
go_to m Fleet a q coast false = sail_to m (fleet_next m a) q coast OutOfReach

-- the other unit, as it is written
abbrev pub checked_other : Chart → Position → Kind → ℕ → Option (List ℕ) → Result AUnit OrderFault
checked_other m b k p coast = do
  unit ← ok_or (other_at b k p) NoSuchUnit
  need (knows_coast m p coast) WrongCoast unit

-- where a dislodged unit goes, the province being open
abbrev pub leave_to : Chart → Kind → Place → ℕ → Option (List ℕ) → Result Place OrderFault
leave_to m Army a q coast = do
  near ← need (is_army_next m a.prov q) NoSuchRetreat q
  need (is_none coast) WrongCoast (army_place near)
leave_to m Fleet a q coast = sail_to m (fleet_next m a) q coast NoSuchRetreat

abbrev pub withdraw_to : Chart → Position → Dislodged → ℕ → Option (List ℕ) → Result Place OrderFault
withdraw_to m b d q coast = if is_open b d.origin q then leave_to m d.unit.kind d.unit.place q coast else Err NoSuchRetreat

-- the place of a unit that is built
abbrev pub site_at : Chart → Kind → ℕ → Option (List ℕ) → Result Place OrderFault
site_at m Army p coast = need (is_none coast) WrongCoast (army_place p)
site_at m Fleet p None = need (nat_le (length (province m p).shores) 1) CoastNeeded (army_place p)
site_at m Fleet p (Some name) = do
  coast ← ok_or (coast_of m p name) WrongCoast
  Ok (record { prov = p; coast = coast })

abbrev pub hold_order : Chart → Position → ℕ → Mention → Result PlacedOrder OrderFault
hold_order m b power u = do
  p ← prov_at m u.at
  unit ← checked_unit m (unit_at b power p) u p
  Ok (record { unit = unit; order = Holds })

abbrev pub move_order : Chart → Position → ℕ → Mention → Spot → Bool → Result PlacedOrder OrderFault
move_order m b power u to via = do
  p ← prov_at m u.at
  q ← prov_at m to
  unit ← checked_unit m (unit_at b power p) u p
  place ← go_to m unit.kind unit.place q to.coast via
  Ok (record { unit = unit; order = Moves place via })

abbrev pub support_hold_order : Chart → Position → ℕ → Mention → Mention → Result PlacedOrder OrderFault
support_hold_order m b power u other = do
  p ← prov_at m u.at
  q ← prov_at m other.at
  unit ← checked_unit m (unit_at b power p) u p
  held ← checked_other m b other.kind q other.at.coast
  need (could_move m unit.kind unit.place q) SupportOutOfReach (record { unit = unit; order = SupportsHold (record { kind = other.kind; prov = q }) })

abbrev pub support_move_order : Chart → Position → ℕ → Mention → Mention → Spot → Result PlacedOrder OrderFault
support_move_order m b power u other to = do
  p ← prov_at m u.at
  from ← prov_at m other.at
  q ← prov_at m to
  unit ← checked_unit m (unit_at b power p) u p
  mover ← checked_other m b other.kind from other.at.coast
  need (is_supportable m unit mover q) SupportOutOfReach (record { unit = unit; order = SupportsMove (record { kind = other.kind; prov = from }) q })

-- the fleet of a convoy
abbrev pub carrier : Chart → AUnit → Result AUnit OrderFault
carrier m unit = do
  fleet ← need (is_kind unit.kind Fleet) WrongKind unit
  need (is_sea (province m fleet.place.prov).terrain) NoConvoyThere fleet

abbrev pub convoy_order : Chart → Position → ℕ → Mention → Spot → Spot → Result PlacedOrder OrderFault
convoy_order m b power u army to = do
  p ← prov_at m u.at
  from ← prov_at m army
  q ← prov_at m to
  unit ← checked_unit m (unit_at b power p) u p
  fleet ← carrier m unit
  carried ← checked_other m b Army from army.coast
  known ← need (knows_coast m q to.coast) WrongCoast q
  need (may_convoy m from known) NoConvoyThere (record { unit = fleet; order = Convoys (record { kind = Army; prov = from }) known })

-- the dislodged unit that was found, as it is written
abbrev pub checked_dislodged : Chart → Option Dislodged → Mention → ℕ → Result Dislodged OrderFault
checked_dislodged m found u p = do
  d ← ok_or found NoUnitThere
  unit ← checked_unit m (Some d.unit) u p
  Ok (record { unit = unit; origin = d.origin })

abbrev pub retreat_order : Chart → Position → ℕ → Mention → Spot → Result PlacedOrder OrderFault
retreat_order m b power u to = do
  p ← prov_at m u.at
  q ← prov_at m to
  d ← checked_dislodged m (dislodged_at b power p) u p
  place ← withdraw_to m b d q to.coast
  Ok (record { unit = d.unit; order = Retreats place })

abbrev pub disband_order : Chart → Position → ℕ → Mention → Result PlacedOrder OrderFault
disband_order m b power u = do
  p ← prov_at m u.at
  d ← checked_dislodged m (dislodged_at b power p) u p
  Ok (record { unit = d.unit; order = Disbands })

abbrev pub build_order : Chart → Position → ℕ → List PlacedOrder → Mention → Result PlacedOrder OrderFault
build_order m b power pending u = do
  p ← prov_at m u.at
  free ← need (may_build m b power u.kind p) NoBuildThere p
  place ← site_at m u.kind free u.at.coast
  need (nat_lt (builds_elsewhere pending p) (builds_due m b power)) AllowanceUsed (record { unit = record { power = power; kind = u.kind; place = place }; order = Builds })

abbrev pub remove_order : Chart → Position → ℕ → List PlacedOrder → Mention → Result PlacedOrder OrderFault
remove_order m b power pending u = do
  p ← prov_at m u.at
  unit ← checked_unit m (unit_at b power p) u p
  need (nat_lt (removals_elsewhere pending p) (removals_due b power)) AllowanceUsed (record { unit = unit; order = Removes })

-- the order that a form is on this board, or its first fault
abbrev pub order_steps : Chart → Position → ℕ → List PlacedOrder → Form → Result PlacedOrder OrderFault
order_steps m b power pending (Hold u) = hold_order m b power u
order_steps m b power pending (Move u to via) = move_order m b power u to via
order_steps m b power pending (SupportHold u other held) = support_hold_order m b power u other
order_steps m b power pending (SupportMove u other to) = support_move_order m b power u other to
order_steps m b power pending (Convoy u army to) = convoy_order m b power u army to
order_steps m b power pending (Retreat u to) = retreat_order m b power u to
order_steps m b power pending (Disband u) = disband_order m b power u
order_steps m b power pending (Build u) = build_order m b power pending u
order_steps m b power pending (Remove u) = remove_order m b power pending u

-- the order that a form is on this board, if such a form is given in this kind of phase; else the fault NotInThisPhase
abbrev pub in_phase : Chart → Position → ℕ → List PlacedOrder → Form → Result PlacedOrder OrderFault
in_phase m b power pending d = if is_in_phase d b.phase.season then order_steps m b power pending d else Err NotInThisPhase
