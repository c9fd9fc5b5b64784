use Rattle.std.proofs.Common.{◌∙◌, sym}
use Rattle.dip_turn_phases.proofs.OrderLemmas.{supported, unsupported}
use Rattle.dip_turn_phases.proofs.orders.is_support.Goals as goal

pub returns-in-Some : goal.returns-in-Some
returns-in-Some c =
    c.matches_any.ensures ∙ supported c.args.map.now c.args.orders.now c.args.prov c.in-Some.placed (sym c.order_at.ensures ∙ c.in-Some.is)

pub returns-in-None : goal.returns-in-None
returns-in-None c = unsupported c.args.map.now c.args.orders.now c.args.prov (sym c.order_at.ensures ∙ c.in-None.is)
