-- The orders as they are meant are those of the board still.
use Rattle.std.proofs.Common.{List, ◌∙◌}
use Rattle.dip_map.specs.Boards.{Position}
use Rattle.dip_map.specs.Charts.{Chart}
use Rattle.dip_orders_placed.specs.declared.placed.PlacedOrder.{PlacedOrder}
pub use Rattle.dip_decide_table.proofs.Meanings.{meant_in_force, meant_units}
use Rattle.dip_decide_table.specs.Meaning.{meant_on}
use Rattle.dip_decide_rules.specs.Laws.{AreOrders}

-- one order for each unit, each in force, is that as it is meant
pub meant_are_orders : (m : Chart) (b : Position) (orders : List PlacedOrder) → AreOrders m b orders → AreOrders m b (meant_on m b orders)
meant_are_orders m b orders o = record { is_of = o.is_of; units = meant_units m b orders ∙ o.units; in_force = meant_in_force m b orders ∙ o.in_force }
