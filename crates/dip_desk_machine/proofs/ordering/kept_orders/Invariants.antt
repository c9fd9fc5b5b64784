use Rattle.std.proofs.Common.{◌≡◌, take}
use Rattle.dip_desk_games.specs.Ordering as ordering
use Rattle.dip_desk_state.specs.Rows as rows
use Rattle.dip_desk_machine.proofs.ordering.kept_orders.Given as goal

abbrev pub invariant-loop-order : goal.invariant-loop-order
invariant-loop-order l = rows.standings l.kept.items ≡ ordering.kept_orders l.map (take l.order-index l.orders)
