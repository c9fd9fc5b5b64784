-- Reading an order line, as a function.
use Rattle.std.specs.Prelude.{ℕ, List, Option, None, Some, Result, Err}
use Rattle.dip_map.specs.Charts.{Chart}
use Rattle.dip_map.specs.Boards.{Position}
use Rattle.dip_orders_lines.specs.Reading.{form_in}
use Rattle.dip_orders_lines.specs.declared.forms.Form.{Form}
use Rattle.dip_orders.specs.Rules.{answer}
use Rattle.dip_orders.specs.declared.faults.OrderFault.{OrderFault}
use Rattle.dip_orders.specs.declared.faults.OrderFault.TheVariants.{CannotBeRead}
use Rattle.dip_orders_placed.specs.declared.placed.PlacedOrder.{PlacedOrder}

abbrev pub answer_to : Chart → Position → ℕ → List PlacedOrder → Option Form → Result PlacedOrder OrderFault
answer_to m b power pending None = Err CannotBeRead
answer_to m b power pending (Some d) = answer m b power pending d

-- the order of a power that a line is on a board, beside those of its orders that stand, or its first fault
unfoldable pub order_of : Chart → Position → ℕ → List PlacedOrder → List ℕ → Result PlacedOrder OrderFault
order_of m b power pending line = answer_to m b power pending (form_in line)
