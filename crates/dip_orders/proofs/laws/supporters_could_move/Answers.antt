use Rattle.dip_orders.proofs.PlayLaws.{aiders_could_move, holders_could_move}
use Rattle.dip_orders.proofs.laws.supporters_could_move.Goals as goal

pub returns-clause-held : goal.returns-clause-held
returns-clause-held c = holders_could_move c.orders_are_lawful.ensures c.lawful_orders_are_read.ensures

pub returns-clause-moved : goal.returns-clause-moved
returns-clause-moved c = aiders_could_move c.orders_are_lawful.ensures c.lawful_orders_are_read.ensures
