use Rattle.std.proofs.Common.{inl, inr, sym, refl, ap, ◌∙◌}
use Rattle.dip_orders.specs.Reading.{answer_to, order_of}
use Rattle.dip_orders.proofs.StepLaws.{steps_law}
use Rattle.dip_orders.proofs.reading.read_order.Goals as goal

pub returns-in-Some-clause-reading : goal.returns-in-Some-clause-reading
returns-in-Some-clause-reading c =
    inl (c.in-Some.form, c.in-Some.ensures.found, sym (c.in_phase.ensures ∙ steps_law c.args.map.now c.args.board.now c.args.power c.args.pending.now c.in-Some.form))

pub returns-in-Some-clause-value : goal.returns-in-Some-clause-value
unfolding order_of
returns-in-Some-clause-value c =
    c.in_phase.ensures ∙ (steps_law c.args.map.now c.args.board.now c.args.power c.args.pending.now c.in-Some.form
    ∙ ap (answer_to c.args.map.now c.args.board.now c.args.power c.args.pending.now) c.in-Some.ensures.value)

pub returns-in-None-clause-reading : goal.returns-in-None-clause-reading
returns-in-None-clause-reading c = inr (c.in-None.ensures.none, refl)
