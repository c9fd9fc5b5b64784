use Rattle.dip_store_sql.proofs.Joining.{does_and}
use Rattle.dip_store_changes.proofs.orders.put_orders.Goals as goal

pub returns-clause-does : goal.returns-clause-does
returns-clause-does g c = does_and c.in_ok-clear_orders.ensures.does c.add_orders.ensures.does
