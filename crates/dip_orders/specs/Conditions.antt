-- The tests that the rules of reading an order line name.
use Rattle.std.specs.Prelude.{ℕ, ◌==◌, ◌&&◌, ◌||◌, nat_le, not, Bool, true, false, List, length, Option, None, Some, is_some, find, count_by}
use Rattle.std.specs.Option.{unwrap_or}
use Rattle.std.specs.List.{list_any}
use Rattle.std.specs.Str.{bytes_eq}
use Rattle.dip_names.specs.Kinds.{is_kind, is_coastal}
use Rattle.dip_names.specs.declared.names.Kind.{Kind}
use Rattle.dip_names.specs.declared.names.Kind.TheVariants.{Army, Fleet}
use Rattle.dip_names.specs.declared.names.Place.{Place}
use Rattle.dip_names.specs.declared.names.Unit.{Unit as AUnit}
use Rattle.dip_map.specs.declared.boards.Dislodged.{Dislodged}
use Rattle.dip_map.specs.declared.boards.Season.{Season}
use Rattle.dip_map.specs.declared.boards.Season.TheVariants.{SpringMoves, SpringRetreats, FallMoves, FallRetreats, Winter}
use Rattle.dip_map.specs.Charts.{Chart, province, shore, fleet_next, home, is_army_next, prov_of, coast_of}
use Rattle.dip_map.specs.Boards.{Position, is_vacant, owns}
use Rattle.dip_orders_lines.specs.declared.forms.Spot.{Spot}
use Rattle.dip_orders_lines.specs.declared.forms.Form.{Form}
use Rattle.dip_orders_lines.specs.declared.forms.Form.TheVariants.{Hold, Move, SupportHold, SupportMove, Convoy, Retreat, Disband, Build, Remove}
use Rattle.dip_orders_placed.specs.declared.placed.Order.{Order}
use Rattle.dip_orders_placed.specs.declared.placed.Order.TheVariants.{Hold as Holds, Move as Moves, SupportHold as SupportsHold, SupportMove as SupportsMove, Convoy as Convoys, Retreat as Retreats, Disband as Disbands, Build as Builds, Remove as Removes}
use Rattle.dip_orders_placed.specs.declared.placed.PlacedOrder.{PlacedOrder}

-- units move in Spring and Fall
abbrev pub is_movement : Season → Bool
is_movement SpringMoves = true
is_movement SpringRetreats = false
is_movement FallMoves = true
is_movement FallRetreats = false
is_movement Winter = false

-- dislodged units retreat after the movement of Spring and of Fall
abbrev pub is_retreat : Season → Bool
is_retreat SpringMoves = false
is_retreat SpringRetreats = true
is_retreat FallMoves = false
is_retreat FallRetreats = true
is_retreat Winter = false

-- units are built and removed in Winter
abbrev pub is_adjustment : Season → Bool
is_adjustment SpringMoves = false
is_adjustment SpringRetreats = false
is_adjustment FallMoves = false
is_adjustment FallRetreats = false
is_adjustment Winter = true

-- the form belongs to the phase
abbrev pub is_in_phase : Form → Season → Bool
is_in_phase (Hold u) s = is_movement s
is_in_phase (Move u to via) s = is_movement s
is_in_phase (SupportHold u other held) s = is_movement s
is_in_phase (SupportMove u other to) s = is_movement s
is_in_phase (Convoy u army to) s = is_movement s
is_in_phase (Retreat u to) s = is_retreat s
is_in_phase (Disband u) s = is_retreat s
is_in_phase (Build u) s = is_adjustment s
is_in_phase (Remove u) s = is_adjustment s

-- the code is on the map
abbrev pub is_on_map : Chart → Spot → Bool
is_on_map m s = is_some (prov_of m s.code)

-- the province of the code, or a number that is none's
abbrev pub prov_named : Chart → Spot → ℕ
prov_named m s = unwrap_or (prov_of m s.code) (length m.provinces)

-- what stands for a place or a unit that isn't there
abbrev pub no_place : Place
no_place = record { prov = 0; coast = 0 }

abbrev pub no_unit : AUnit
no_unit = record { power = 0; kind = Army; place = no_place }

abbrev pub no_dislodged : Dislodged
no_dislodged = record { unit = no_unit; origin = None }

-- the place of an army in a province
abbrev pub army_place : ℕ → Place
army_place p = record { prov = p; coast = 0 }

-- the standing unit of a power in a province
abbrev pub unit_at : Position → ℕ → ℕ → Option AUnit
unit_at b power p = find (λ u. (u.power == power) && (u.place.prov == p)) b.units

-- the dislodged unit of a power in a province
abbrev pub dislodged_at : Position → ℕ → ℕ → Option Dislodged
dislodged_at b power p = find (λ d. (d.unit.power == power) && (d.unit.place.prov == p)) b.dislodged

-- the standing unit of a kind in a province, of any power
abbrev pub other_at : Position → Kind → ℕ → Option AUnit
other_at b k p = find (λ u. is_kind u.kind k && (u.place.prov == p)) b.units

-- the province has the coast that is written, if one is
abbrev pub knows_coast : Chart → ℕ → Option (List ℕ) → Bool
knows_coast m p None = true
knows_coast m p (Some name) = is_some (coast_of m p name)

-- of the places that a unit can come to, those in one province: the first, how many there are, the one of a coast
abbrev pub first_in : List Place → ℕ → Option Place
first_in places q = find (λ b. b.prov == q) places

abbrev pub count_in : List Place → ℕ → ℕ
count_in places q = count_by (λ b. b.prov == q) places

abbrev pub named_in : Chart → List Place → ℕ → List ℕ → Option Place
named_in m places q name = find (λ b. (b.prov == q) && bytes_eq (shore m b).name name) places

-- the coast that is written, if one is, is that of one of them
abbrev pub has_coast_in : Chart → List Place → ℕ → Option (List ℕ) → Bool
has_coast_in m places q None = true
has_coast_in m places q (Some name) = is_some (named_in m places q name)

-- a coast is written, or there aren't two of them
abbrev pub is_settled_in : List Place → ℕ → Option (List ℕ) → Bool
is_settled_in places q None = nat_le (count_in places q) 1
is_settled_in places q (Some name) = true

-- the one that is meant: that of the coast written, else the only one
abbrev pub place_in : Chart → List Place → ℕ → Option (List ℕ) → Place
place_in m places q None = unwrap_or (first_in places q) no_place
place_in m places q (Some name) = unwrap_or (named_in m places q name) no_place

-- a unit could move to a province: an army to its neighbour, a fleet where some place of it is a neighbour of its own
abbrev pub could_move : Chart → Kind → Place → ℕ → Bool
could_move m Army a q = is_army_next m a.prov q
could_move m Fleet a q = is_some (first_in (fleet_next m a) q)

-- a convoy may lead from p to q: both are coastal, and they differ
abbrev pub may_convoy : Chart → ℕ → ℕ → Bool
may_convoy m p q = is_coastal (province m p).terrain && (is_coastal (province m q).terrain && not (p == q))

-- an army may travel from p to q: on foot, or by convoy
abbrev pub may_travel : Chart → ℕ → ℕ → Bool
may_travel m p q = is_army_next m p q || may_convoy m p q

-- a unit could come to a province: it could move there, or is an army that a convoy may take there
abbrev pub could_come : Chart → AUnit → ℕ → Bool
could_come m u q = could_move m u.kind u.place q || (is_kind u.kind Army && may_convoy m u.place.prov q)

-- a unit may be built: the province is a home centre of the power, owned by it and without a unit, and for a fleet coastal
abbrev pub may_build : Chart → Position → ℕ → Kind → ℕ → Bool
may_build m b power k p = list_any (λ x. x == p) (home m power) && (owns b power p && (is_vacant b p && (is_kind k Army || is_coastal (province m p).terrain)))

abbrev pub is_build : Order → Bool
is_build Holds = false
is_build (Moves to via) = false
is_build (SupportsHold at) = false
is_build (SupportsMove at to) = false
is_build (Convoys at to) = false
is_build (Retreats to) = false
is_build Disbands = false
is_build Builds = true
is_build Removes = false

abbrev pub is_remove : Order → Bool
is_remove Holds = false
is_remove (Moves to via) = false
is_remove (SupportsHold at) = false
is_remove (SupportsMove at to) = false
is_remove (Convoys at to) = false
is_remove (Retreats to) = false
is_remove Disbands = false
is_remove Builds = false
is_remove Removes = true

-- how many builds, and how many removals, stand in other provinces than p
abbrev pub builds_elsewhere : List PlacedOrder → ℕ → ℕ
builds_elsewhere pending p = count_by (λ o. is_build o.order && not (o.unit.place.prov == p)) pending

abbrev pub removals_elsewhere : List PlacedOrder → ℕ → ℕ
removals_elsewhere pending p = count_by (λ o. is_remove o.order && not (o.unit.place.prov == p)) pending
