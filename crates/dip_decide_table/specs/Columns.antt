-- The columns of a movement's orders, each in the row of its unit's province.
use Rattle.std.specs.Prelude.{◌≡◌, List, Option, map}
use Rattle.dip_map.specs.Charts.{Chart}
use Rattle.dip_orders_placed.specs.declared.placed.PlacedOrder.{PlacedOrder}
use Rattle.dip_decide_table.specs.declared.table.Columns.{Columns}
use Rattle.dip_decide_table.specs.Placed.{carried_of, convoyed_of, targets_of}

-- the columns of these rows
pub record AreColumns (m : Chart) (all : List (Option PlacedOrder)) (c : Columns) : Type 0 where
  pub rows : c.rows.items ≡ all
  pub targets : c.targets.items ≡ targets_of all
  pub convoyed : c.convoyed.items ≡ convoyed_of m all
  pub carried : c.carried.items ≡ map carried_of all
