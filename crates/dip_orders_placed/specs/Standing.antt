-- The orders that stand when the movement of a phase is decided: one for each unit.
use Rattle.std.specs.Prelude.{◌≡◌, ℕ, ◌==◌, ◌&&◌, not, Bool, true, false, Contains, List, Option, map, find, option_map}
use Rattle.std.specs.List.{list_all}
use Rattle.std.specs.Option.{unwrap_or}
use Rattle.dip_names.specs.declared.names.Unit.{Unit as AUnit}
use Rattle.dip_map.specs.Boards.{Position}
use Rattle.dip_names.specs.Kinds.{is_kind}
use Rattle.dip_orders_placed.specs.declared.placed.Order.{Order}
use Rattle.dip_orders_placed.specs.declared.placed.Order.TheVariants.{Hold, Move, SupportHold, SupportMove, Convoy, Retreat, Disband, Build, Remove}
use Rattle.dip_orders_placed.specs.declared.placed.PlacedOrder.{PlacedOrder}

-- a unit in a province can do it in a phase of movement: nothing moves to where it stands
abbrev pub is_done_from : ℕ → Order → Bool
is_done_from p Hold = true
is_done_from p (Move to via) = not (to.prov == p)
is_done_from p (SupportHold at) = true
is_done_from p (SupportMove at to) = true
is_done_from p (Convoy at to) = true
is_done_from p (Retreat to) = false
is_done_from p Disband = false
is_done_from p Build = false
is_done_from p Remove = false

-- an order of a phase of movement, to no unit's own province
abbrev pub is_in_force : PlacedOrder → Bool
is_in_force o = is_done_from o.unit.place.prov o.order

abbrev pub are_in_force : List PlacedOrder → Bool
are_in_force orders = list_all is_in_force orders

-- two units are one: a power's, of one kind, at one place
abbrev pub is_same_unit : AUnit → AUnit → Bool
is_same_unit u v = (u.power == v.power) && (is_kind u.kind v.kind && ((u.place.prov == v.place.prov) && (u.place.coast == v.place.coast)))

-- the first order in force that is the unit's own
abbrev pub found_order : List PlacedOrder → AUnit → Option PlacedOrder
found_order pending u = find (λ o. is_same_unit o.unit u && is_in_force o) pending

-- the order of a unit: the first in force that is its own, else it holds
abbrev pub order_among : List PlacedOrder → AUnit → PlacedOrder
order_among pending u = record { unit = u; order = unwrap_or (option_map (λ o. o.order) (found_order pending u)) Hold }

-- the orders that stand: one for each unit, in the board's order
abbrev pub standing_orders : Position → List PlacedOrder → List PlacedOrder
standing_orders b pending = map (order_among pending) b.units

-- whose orders they are
abbrev pub units_of : List PlacedOrder → List AUnit
units_of orders = map (λ o. o.unit) orders

-- no other of the orders is its unit's
abbrev pub IsOnly : PlacedOrder → List PlacedOrder → Type 0
IsOnly o orders = (p : PlacedOrder) → Contains orders p → p.unit ≡ o.unit → p ≡ o
