use Rattle.std.proofs.Common.{refl, sym, ◌∙◌, length, ◌≡◌}
use Rattle.std.proofs.lemmas.Bool.{eqb-true}
use Rattle.dip_decide_rules.specs.Given.{situation_of, known_of}
use Rattle.dip_decide_rules.specs.Steps.{steps_of}
use Rattle.dip_decide_rules.proofs.Rounds.{ring_circle, no_circle, open_knot, all_known, last_turn, not_empty, is_nothing, some_open, some_there, NoCircle}
use Rattle.dip_decide.proofs.turns.turn_unforced.Goals as goal

pub take_circle-requires-clause-circle : goal.take_circle-requires-clause-circle
take_circle-requires-clause-circle c =
    ring_circle (situation_of c.args.table.now) c.requires.situation (known_of c.args.values.now) c.requires.started c.requires.unforced c.in-Some.ring.items (rw c.in-Some.is at c.in_ok-ring.ensures)

pub returns-then-is_empty-clause-turned : goal.returns-then-is_empty-clause-turned
returns-then-is_empty-clause-turned c =
    let s = situation_of c.args.table.now in
    let k = known_of c.args.values.now in
    let none : NoCircle s k = no_circle s c.requires.situation k c.requires.started c.requires.unforced (rw c.in_default.is at c.in_ok-ring.ensures) in
    let empty : length c.in_ok-knot.knot.items ≡ 0 = rw c.as_slice.ensures.value at (eqb-true _ _ (sym c.is_empty.ensures ∙ c.if-is_empty.true)) in
    last_turn s (steps_of c.args.steps.now.items) k k refl (all_known s c.requires.situation k c.requires.started c.requires.unforced none (sym c.in_ok-knot.ensures ∙ is_nothing c.in_ok-knot.knot.items empty))

pub take_knot-requires-clause-some : goal.take_knot-requires-clause-some
take_knot-requires-clause-some c =
    not_empty c.in_ok-knot.knot.items (rw c.as_slice.ensures.value at (some_there _ (sym c.is_empty.ensures ∙ c.if-is_empty.false)))

pub take_knot-requires-clause-knot : goal.take_knot-requires-clause-knot
take_knot-requires-clause-knot c =
    let s = situation_of c.args.table.now in
    let k = known_of c.args.values.now in
    let none : NoCircle s k = no_circle s c.requires.situation k c.requires.started c.requires.unforced (rw c.in_default.is at c.in_ok-ring.ensures) in
    let one = some_open s k c.in_ok-knot.knot.items c.in_ok-knot.ensures (not_empty c.in_ok-knot.knot.items (rw c.as_slice.ensures.value at (some_there _ (sym c.is_empty.ensures ∙ c.if-is_empty.false)))) in
    rw c.in_ok-knot.ensures (open_knot s c.requires.situation k c.requires.started c.requires.unforced none one.0 one.1)

pub returns-then-is_empty-clause-work : goal.returns-then-is_empty-clause-work
returns-then-is_empty-clause-work c = λ t w. rw c.requires.empty w
