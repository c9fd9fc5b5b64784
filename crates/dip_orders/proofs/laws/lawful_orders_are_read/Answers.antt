use Rattle.dip_orders.proofs.LawfulReadLaws.{lawful_read}
use Rattle.dip_orders.proofs.laws.lawful_orders_are_read.Goals as goal

pub returns : goal.returns
returns c = lawful_read (record { said = c.forms_are_read.ensures.said; read = c.forms_are_read.ensures.read; again = c.forms_are_read.ensures.again })
