use Rattle.dip_orders.proofs.LawfulLaws.{read_lawful}
use Rattle.dip_orders.proofs.laws.orders_are_lawful.Goals as goal

pub returns : goal.returns
returns c = read_lawful (record { said = c.forms_are_read.ensures.said; read = c.forms_are_read.ensures.read; again = c.forms_are_read.ensures.again })
