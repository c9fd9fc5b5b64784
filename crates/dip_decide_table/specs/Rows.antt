-- What the rows of a table stand for.
use Rattle.std.specs.Prelude.{List, map, Option}
use Rattle.dip_map.specs.Charts.{Chart, provs}
use Rattle.dip_orders_placed.specs.declared.placed.PlacedOrder.{PlacedOrder}
use Rattle.dip_decide_table.specs.declared.placed.Table.{Table}
use Rattle.dip_decide_table.specs.Matching.{order_at, situation_by}
use Rattle.dip_decide_table.specs.Placed.{entry}
use Rattle.dip_decide_table.specs.Situations.{Situation}

-- a row for each province: the order of the unit in it
abbrev pub rows_of : List PlacedOrder → Chart → List (Option PlacedOrder)
rows_of orders m = map (order_at orders) (provs m)

-- a column in which each province has this one row
abbrev pub alike_rows : Option PlacedOrder → Chart → List (Option PlacedOrder)
alike_rows row m = map (λ p. row) (provs m)

-- the situation of a table
abbrev pub situation_of : Table → Situation
situation_of t = situation_by t.map.now t.places.items (entry t.rows.items)
