use Rattle.std.proofs.Common.{◌∙◌, sym}
use Rattle.dip_orders_lines.proofs.FormLaws.{too_short, form_done}
use Rattle.dip_orders_lines.proofs.reading.form_of.Goals as goal

pub returns-in_default : goal.returns-in_default
returns-in_default c = too_short c.args.tokens.now c.in_default.len_below

pub returns-in_ok-unit-in-len3-up : goal.returns-in_ok-unit-in-len3-up
returns-in_ok-unit-in-len3-up c = c.done_of.ensures ∙ form_done c.args.tokens.now _ c.in_ok-unit-in-len3-up.unit c.in-len3-up.len_at_least (sym c.in_ok-unit-in-len3-up.ensures)
