-- The orders of a movement as they are meant on a board: where the game has the option INTENT, an army goes by convoy also where a fleet
-- of its own power is ordered to carry it.
use Rattle.std.specs.Prelude.{ℕ, ◌==◌, ◌&&◌, ◌||◌, Bool, false, List, map, if◌then◌else◌}
use Rattle.std.specs.List.{list_any}
use Rattle.dip_names.specs.declared.names.Kind.TheVariants.{Army, Fleet}
use Rattle.dip_names.specs.declared.names.Unit.{Unit as AUnit}
use Rattle.dip_names.specs.Kinds.{is_kind, is_coastal, is_sea}
use Rattle.dip_map.specs.Boards.{Position}
use Rattle.dip_map.specs.Charts.{Chart, province}
use Rattle.dip_orders_placed.specs.declared.placed.Order.{Order}
use Rattle.dip_orders_placed.specs.declared.placed.Order.TheVariants.{Move, Convoy}
use Rattle.dip_orders_placed.specs.declared.placed.PlacedOrder.{PlacedOrder}
use Rattle.dip_decide_table.specs.Matching.{situation}
use Rattle.dip_decide_table.specs.Situations.{Situation}

-- the order is to convoy the army in the one province to the other
abbrev pub is_convoy_of : ℕ → ℕ → Order → Bool
is_convoy_of p q (Convoy at to) = is_kind at.kind Army && (at.prov == p && to == q)
is_convoy_of p q _ = false

-- a fleet of that power in a sea is ordered to convoy the army in the one province to the other
abbrev pub carries_for : Chart → ℕ → ℕ → ℕ → PlacedOrder → Bool
carries_for m power p q x =
    x.unit.power == power && (is_kind x.unit.kind Fleet && (is_sea (province m x.unit.place.prov).terrain && is_convoy_of p q x.order))

-- both provinces are coastal
abbrev pub are_coastal : Chart → ℕ → ℕ → Bool
are_coastal m p q = is_coastal (province m p).terrain && is_coastal (province m q).terrain

-- the unit is an army between two coastal provinces, and a fleet of its own power in a sea is ordered to convoy that very move
abbrev pub is_meant_by_sea : Chart → List PlacedOrder → AUnit → ℕ → Bool
is_meant_by_sea m orders u q =
    is_kind u.kind Army && (are_coastal m u.place.prov q && list_any (carries_for m u.power u.place.prov q) orders)

-- what an order means: such a move is one by convoy, all else is as it was given
abbrev pub meant_order : Chart → List PlacedOrder → AUnit → Order → Order
meant_order m orders u (Move to via) = Move to (via || is_meant_by_sea m orders u to.prov)
meant_order m orders u order = order

abbrev pub meant_of : Chart → List PlacedOrder → PlacedOrder → PlacedOrder
meant_of m orders o = record { unit = o.unit; order = meant_order m orders o.unit o.order }

-- the orders as they are meant: with the option off just as they were given
abbrev pub meant : Chart → Bool → List PlacedOrder → List PlacedOrder
meant m intent orders = if intent then map (meant_of m orders) orders else orders

-- the orders as they are meant on a board, and their situation
abbrev pub meant_on : Chart → Position → List PlacedOrder → List PlacedOrder
meant_on m b orders = meant m b.intent orders

abbrev pub situation_on : Chart → Position → List PlacedOrder → Situation
situation_on m b orders = situation m (meant_on m b orders)
