use Rattle.dip_orders.proofs.ReadingLaws.{Forms, read_again, read_alone, told_apart}
use Rattle.dip_orders.proofs.laws.orders_are_read_again.Goals as goal

forms_of : (c : goal.After-forms_are_read) → Forms
forms_of c = record { said = c.forms_are_read.ensures.said; read = c.forms_are_read.ensures.read; again = c.forms_are_read.ensures.again }

pub returns-clause-again : goal.returns-clause-again
returns-clause-again c = read_again (forms_of c)

pub returns-clause-alone : goal.returns-clause-alone
returns-clause-alone c = read_alone

pub returns-clause-apart : goal.returns-clause-apart
returns-clause-apart c = told_apart (forms_of c)
