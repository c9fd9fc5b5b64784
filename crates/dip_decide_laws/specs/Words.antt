-- A movement in a player's words: units with their orders as they are meant on the board, and what came of them.
use Rattle.std.specs.Prelude.{◌≡◌, ◌⊎◌, ℕ, ◌==◌, ◌&&◌, ◌||◌, not, Bool, true, false, Contains, List, map, count_by, if◌then◌else◌}
use Rattle.dip_names.specs.declared.names.Kind.{Kind}
use Rattle.dip_names.specs.declared.names.Kind.TheVariants.{Army, Fleet}
use Rattle.dip_names.specs.Kinds.{is_kind}
use Rattle.dip_map.specs.Charts.{Chart, is_army_next}
use Rattle.dip_map.specs.Boards.{Position}
use Rattle.dip_orders_placed.specs.declared.placed.Other.{Other}
use Rattle.dip_orders_placed.specs.declared.placed.Order.{Order}
use Rattle.dip_orders_placed.specs.declared.placed.Order.TheVariants.{Hold, Move, SupportHold, SupportMove, Convoy}
use Rattle.dip_orders_placed.specs.declared.placed.PlacedOrder.{PlacedOrder}
use Rattle.dip_decide.specs.Decision.{Decision}
use Rattle.dip_decide.specs.Decision.TheVariants.{Move as Moves, Path as Paths, Support as Supports}
use Rattle.dip_decide.specs.Deciding.{Assignment, is_path}
use Rattle.dip_decide.specs.Laws.{AreOrders}
use Rattle.dip_decide.specs.Matching.{situation}
use Rattle.dip_decide.specs.Movement.{Satisfies}

-- a movement that was decided: a board of a map, an order in force for each unit of it as it is meant, and what came of them by the decision
-- equations, where nothing was broken but paths
pub record IsDecided (m : Chart) (b : Position) (orders : List PlacedOrder) (a : Assignment) : Type 0 where
  pub standing : AreOrders m b orders
  pub broken : Decision → Bool
  pub paths_alone : (d : Decision) → broken d ≡ true → is_path d ≡ true
  pub equations : Satisfies (situation m orders) broken a

-- the province of an order's unit
abbrev pub prov : PlacedOrder → ℕ
prov o = o.unit.place.prov

-- the order is a move
abbrev pub is_a_move : Order → Bool
is_a_move (Move to via) = true
is_a_move _ = false

-- the order is a move to that province
abbrev pub is_move_to : Order → ℕ → Bool
is_move_to (Move to via) q = to.prov == q
is_move_to _ q = false

-- the unit is ordered to move
abbrev pub moves : PlacedOrder → Bool
moves o = is_a_move o.order

-- the unit is ordered to move to that province
abbrev pub goes_to : PlacedOrder → ℕ → Bool
goes_to o q = is_move_to o.order q

-- a fleet moves by itself, and so does an army that isn't told to go by convoy and can walk to where it goes
abbrev pub is_own_way : Chart → Kind → ℕ → Order → Bool
is_own_way m Fleet p order = true
is_own_way m Army p (Move to via) = not via && is_army_next m p to.prov
is_own_way m Army p _ = true

-- the unit moves by itself, and not by convoy
abbrev pub goes_itself : Chart → PlacedOrder → Bool
goes_itself m o = is_own_way m o.unit.kind (prov o) o.order

-- the two units are ordered to each other's province, and both go by themselves
abbrev pub are_head_to_head : Chart → PlacedOrder → PlacedOrder → Bool
are_head_to_head m o w = (goes_to o (prov w) && goes_to w (prov o)) && (goes_itself m o && goes_itself m w)

-- an order names a unit by its kind and its province
abbrev pub names : Other → PlacedOrder → Bool
names at o = (at.prov == prov o) && is_kind o.unit.kind at.kind

-- the order is a support of what that unit does: to stay, where it has no move, or to move to where it goes
abbrev pub is_support_of : Order → PlacedOrder → Bool
is_support_of (SupportHold at) o = names at o && not (moves o)
is_support_of (SupportMove at to) o = names at o && goes_to o to
is_support_of _ o = false

-- the first unit is ordered to support what the second one does
abbrev pub helps : PlacedOrder → PlacedOrder → Bool
helps h o = is_support_of h.order o

-- the order is a support, and into that province
abbrev pub is_support_into : Order → ℕ → Bool
is_support_into (SupportMove at to) q = to == q
is_support_into _ q = false

-- the move of the unit succeeded
abbrev pub has_moved : Assignment → PlacedOrder → Bool
has_moved a o = a (Moves (prov o))

-- the support of the unit was given
abbrev pub has_helped : Assignment → PlacedOrder → Bool
has_helped a h = a (Supports (prov h))

-- fleets carried the unit to where it goes: they made it a path
abbrev pub was_carried : Assignment → PlacedOrder → Bool
was_carried a o = a (Paths (prov o))

-- the unit goes by itself, or fleets carried it
abbrev pub HasWay : Chart → Assignment → PlacedOrder → Type 0
HasWay m a o = (goes_itself m o ≡ true) ⊎ (was_carried a o ≡ true)

-- the unit entered that province
abbrev pub has_entered : Assignment → PlacedOrder → ℕ → Bool
has_entered a o q = goes_to o q && has_moved a o

-- the first unit stayed, and the second one entered its province
abbrev pub was_dislodged_by : Assignment → PlacedOrder → PlacedOrder → Bool
was_dislodged_by a o w = not (has_moved a o) && has_entered a w (prov o)

-- the unit stayed, and some unit entered its province
abbrev pub WasDislodged : Assignment → List PlacedOrder → PlacedOrder → Type 0
WasDislodged a orders o = (w : PlacedOrder) × Contains orders w × (was_dislodged_by a o w ≡ true)

-- how many supports were given to the unit
abbrev pub helpers : Assignment → List PlacedOrder → PlacedOrder → ℕ
helpers a orders o = count_by (λ h. helps h o && has_helped a h) orders

-- how many of them are of other powers than that one
abbrev pub helpers_but : Assignment → List PlacedOrder → PlacedOrder → ℕ → ℕ
helpers_but a orders o power = count_by (λ h. (helps h o && has_helped a h) && not (h.unit.power == power)) orders

-- the orders, but each unit that passes holds
abbrev pub held_if : (PlacedOrder → Bool) → PlacedOrder → PlacedOrder
held_if test o = if test o then record { unit = o.unit; order = Hold } else o

abbrev pub holding : (PlacedOrder → Bool) → List PlacedOrder → List PlacedOrder
holding test orders = map (held_if test) orders

-- the order is a support, of whatever it names
abbrev pub is_a_support : Order → Bool
is_a_support (SupportHold at) = true
is_a_support (SupportMove at to) = true
is_a_support _ = false

-- the order is a convoy, of whatever it names
abbrev pub is_a_convoy : Order → Bool
is_a_convoy (Convoy at to) = true
is_a_convoy _ = false

-- the unit stands in that province
abbrev pub is_in : ℕ → PlacedOrder → Bool
is_in p o = prov o == p

-- the order is to support a unit in that province where it stands
abbrev pub is_stay_support : Order → ℕ → Bool
is_stay_support (SupportHold at) p = at.prov == p
is_stay_support _ p = false

-- the unit stands in that province, or is ordered to support the one there to stay
abbrev pub is_in_or_stays : ℕ → PlacedOrder → Bool
is_in_or_stays p o = is_in p o || is_stay_support o.order p
