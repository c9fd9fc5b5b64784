use Rattle.std.proofs.Common.{◌≡◌, Err, IfErr, IfOk, List, Ok, Result, sym, subst}
use Rattle.dip_orders_placed.specs.declared.placed.PlacedOrder.{PlacedOrder}
use Rattle.dip_decide_rules.specs.Given.{known_of, situation_of, IsAnswer}
use Rattle.dip_decide_rules.specs.Meaning.{situation_on}
use Rattle.dip_decide_rules.specs.Movement.{IsSituation, Situation, rule}
use Rattle.dip_decide_rules.proofs.Rounds.{if_ok_more}
use Rattle.dip_decide.proofs.ResultLaws.{situated_on, within}
use Rattle.dip_decide.proofs.testing.forced_value.Goals as goal

-- what holds of an answer over any ground holds over the one that there is; where there is none, there is no answer
by_ground : {G X E : Type 0} (at : G → Situation) (s : Situation) (P : Situation → X → Type 0) (ground : Result G E) (result : Result X E)
    → IfOk ground (λ g. at g ≡ s) → IfOk ground (λ g. IfOk result (P (at g))) → IfErr ground (λ e. result ≡ Err e) → IfOk result (P s)
by_ground at s P (Ok g) result is answer wanting = if_ok_more (P (at g)) (P s) result (λ x h. subst (λ (t : Situation). P t x) is h) answer
by_ground at s P (Err e) result is answer wanting = rw wanting tt

pub ground_of-ground-requires : goal.ground_of-ground-requires
ground_of-ground-requires c = rw c.as_slice.ensures (within c.args.map.now c.args.board.now c.args.orders.now c.requires.is_of c.requires.orders)

pub forced_on-requires-clause-situation : goal.forced_on-requires-clause-situation
forced_on-requires-clause-situation c =
    if_ok_more _ _ c.ground_of-ground.result (λ g is. subst IsSituation (sym is) (subst (λ (os : List PlacedOrder). IsSituation (situation_on c.args.map.now c.args.board.now os)) (sym c.as_slice.ensures) (situated_on c.args.map.now c.args.board.now c.args.orders.now c.requires.is_of c.requires.orders c.facts.ensures)))
    c.ground_of-ground.ensures

pub returns-clause-answer : goal.returns-clause-answer
returns-clause-answer c =
    by_ground (λ g. situation_of g.0) (situation_on c.args.map.now c.args.board.now c.args.orders.now) (λ s o. IsAnswer (rule s) (known_of c.args.known.now) c.args.d o)
    c.ground_of-ground.result c.forced_on.result
    (subst (λ (os : List PlacedOrder). IfOk c.ground_of-ground.result (λ g. situation_of g.0 ≡ situation_on c.args.map.now c.args.board.now os)) c.as_slice.ensures c.ground_of-ground.ensures)
    c.forced_on.ensures.answer c.forced_on.ensures.wanting
