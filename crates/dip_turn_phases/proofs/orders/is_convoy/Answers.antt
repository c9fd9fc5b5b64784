use Rattle.std.proofs.Common.{◌∙◌, sym}
use Rattle.dip_turn_phases.proofs.OrderLemmas.{convoyed_at_sea, convoyed_elsewhere, unconvoyed}
use Rattle.dip_turn_phases.proofs.orders.is_convoy.Goals as goal

pub returns-then-is_sailing : goal.returns-then-is_sailing
returns-then-is_sailing c =
    c.carries_any.ensures
    ∙ convoyed_at_sea c.args.map.now c.args.orders.now c.args.prov c.in-Some.placed (sym c.order_at.ensures ∙ c.in-Some.is) (sym c.is_sailing.ensures ∙ c.if-is_sailing.true)

pub returns-else-is_sailing : goal.returns-else-is_sailing
returns-else-is_sailing c =
    c.is_sailing.ensures
    ∙ convoyed_elsewhere c.args.map.now c.args.orders.now c.args.prov c.in-Some.placed (sym c.order_at.ensures ∙ c.in-Some.is) (sym c.is_sailing.ensures ∙ c.if-is_sailing.false)

pub returns-in-None : goal.returns-in-None
returns-in-None c = unconvoyed c.args.map.now c.args.orders.now c.args.prov (sym c.order_at.ensures ∙ c.in-None.is)
