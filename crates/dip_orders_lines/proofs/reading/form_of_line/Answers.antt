use Rattle.dip_orders_lines.proofs.ReadingLaws.{form_law, form_long}
use Rattle.dip_orders_lines.proofs.reading.form_of_line.Goals as goal

pub returns-in-Some-clause-found : goal.returns-in-Some-clause-found
returns-in-Some-clause-found c = (form_law c.args.line.now _ c.form_of.result c.in-Some.ensures.found (rw c.as_slice.ensures at c.form_of.ensures)).0

pub returns-in-Some-clause-none : goal.returns-in-Some-clause-none
returns-in-Some-clause-none c = (form_law c.args.line.now _ c.form_of.result c.in-Some.ensures.found (rw c.as_slice.ensures at c.form_of.ensures)).1

pub returns-in-None-clause-none : goal.returns-in-None-clause-none
returns-in-None-clause-none c = form_long c.args.line.now c.in-None.ensures.none
