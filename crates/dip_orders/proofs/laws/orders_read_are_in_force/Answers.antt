use Rattle.dip_orders.proofs.ForceLaws.{lawful_in_force}
use Rattle.dip_orders.proofs.laws.orders_read_are_in_force.Goals as goal

pub returns : goal.returns
returns c m b power pending line o laws on now read = lawful_in_force m b power pending o laws now (c.orders_are_lawful.ensures m b power pending line o laws on read)
