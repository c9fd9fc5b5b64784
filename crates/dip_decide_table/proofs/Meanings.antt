-- The orders as they are meant are of the same units, and in force where those that were given are.
use Rattle.std.proofs.Common.{◌≡◌, ◌<◌, ℕ, List, [], ◌∷◌, refl, ap, ◌∙◌}
use Rattle.std.specs.Prelude.{◌&&◌, All, Bool, true, false, length, map}
use Rattle.std.proofs.lemmas.List.Elements.{All-map}
use Rattle.dip_names.specs.declared.names.Unit.{Unit as AUnit}
use Rattle.dip_map.specs.Boards.{Position}
use Rattle.dip_map.specs.Charts.{Chart}
use Rattle.dip_orders_placed.specs.Standing.{are_in_force, is_done_from, is_in_force, units_of}
use Rattle.dip_orders_placed.specs.declared.placed.Order.{Order}
use Rattle.dip_orders_placed.specs.declared.placed.Order.TheVariants.{Hold, Move, SupportHold, SupportMove, Convoy, Retreat, Disband, Build, Remove}
use Rattle.dip_orders_placed.specs.declared.placed.PlacedOrder.{PlacedOrder}
use Rattle.dip_decide_table.specs.Meaning.{meant, meant_of, meant_on, meant_order}

within_by : (m : Chart) (intent : Bool) (orders : List PlacedOrder) → All (λ o. o.unit.place.prov < length m.provinces) orders
    → All (λ o. o.unit.place.prov < length m.provinces) (meant m intent orders)
within_by m true orders h = All-map (λ o. o.unit.place.prov < length m.provinces) (meant_of m orders) orders h
within_by m false orders h = h

-- the units stand in provinces of the map
pub meant_within : (m : Chart) (b : Position) (orders : List PlacedOrder) → All (λ o. o.unit.place.prov < length m.provinces) orders
    → All (λ o. o.unit.place.prov < length m.provinces) (meant_on m b orders)
meant_within m b orders h = within_by m b.intent orders h

units_by : (m : Chart) (all orders : List PlacedOrder) → units_of (map (meant_of m all) orders) ≡ units_of orders
units_by m all [] = refl
units_by m all (o ∷ orders) = ap (λ (us : List AUnit). o.unit ∷ us) (units_by m all orders)

units_if : (m : Chart) (intent : Bool) (orders : List PlacedOrder) → units_of (meant m intent orders) ≡ units_of orders
units_if m true orders = units_by m orders orders
units_if m false orders = refl

-- each order is its unit's still
pub meant_units : (m : Chart) (b : Position) (orders : List PlacedOrder) → units_of (meant_on m b orders) ≡ units_of orders
meant_units m b orders = units_if m b.intent orders

done_still : (m : Chart) (all : List PlacedOrder) (u : AUnit) (p : ℕ) (order : Order) → is_done_from p (meant_order m all u order) ≡ is_done_from p order
done_still m all u p Hold = refl
done_still m all u p (Move to via) = refl
done_still m all u p (SupportHold at) = refl
done_still m all u p (SupportMove at to) = refl
done_still m all u p (Convoy at to) = refl
done_still m all u p (Retreat to) = refl
done_still m all u p Disband = refl
done_still m all u p Build = refl
done_still m all u p Remove = refl

forced_by : (m : Chart) (all orders : List PlacedOrder) → are_in_force (map (meant_of m all) orders) ≡ are_in_force orders
forced_by m all [] = refl
forced_by m all (o ∷ orders) =
    ap (λ (b : Bool). b && are_in_force (map (meant_of m all) orders)) (done_still m all o.unit o.unit.place.prov o.order)
    ∙ ap (λ (b : Bool). is_in_force o && b) (forced_by m all orders)

force_if : (m : Chart) (intent : Bool) (orders : List PlacedOrder) → are_in_force (meant m intent orders) ≡ are_in_force orders
force_if m true orders = forced_by m orders orders
force_if m false orders = refl

-- and in force
pub meant_in_force : (m : Chart) (b : Position) (orders : List PlacedOrder) → are_in_force (meant_on m b orders) ≡ are_in_force orders
meant_in_force m b orders = force_if m b.intent orders
