use Rattle.std.proofs.Common.{sym, ◌∙◌, ap, ◌≡◌, ◌≤◌, ◌<◌, ◌+◌, ◌^◌, subst}
use Rattle.dip_decide_rules.specs.Given.{known_of, situation_of}
use Rattle.dip_decide_rules.specs.Meaning.{situation_on}
use Rattle.dip_decide_rules.specs.Movement.{Situation, IsSituation}
use Rattle.dip_decide_rules.specs.Results.{decided_in, mentions_in}
use Rattle.dip_decide.proofs.ResultLaws.{situated_on, within, bounded_board, resolved_board}
use Rattle.dip_decide_rules.proofs.Rounds.{if_ok_more}
use Rattle.dip_decide.proofs.resolving.resolve.Goals as goal

pub table_on-requires : goal.table_on-requires
table_on-requires c = record { within = rw c.as_slice.ensures (within c.args.map.now c.args.board.now c.args.orders.now c.requires.is_of c.requires.orders) }

pub explain-requires-clause-situation : goal.explain-requires-clause-situation
explain-requires-clause-situation c =
    let e : situation_of c.in_ok-table.table ≡ situation_on c.args.map.now c.args.board.now c.args.orders.now = c.in_ok-table.ensures ∙ ap (situation_on c.args.map.now c.args.board.now) c.as_slice.ensures in
    subst IsSituation (sym e) (situated_on c.args.map.now c.args.board.now c.args.orders.now c.requires.is_of c.requires.orders c.facts-2.ensures)

pub explain-requires-clause-bound : goal.explain-requires-clause-bound
explain-requires-clause-bound c =
    let e : situation_of c.in_ok-table.table ≡ situation_on c.args.map.now c.args.board.now c.args.orders.now = c.in_ok-table.ensures ∙ ap (situation_on c.args.map.now c.args.board.now) c.as_slice.ensures in
    subst (λ (s : Situation). decided_in s + mentions_in s < 2 ^ 64) (sym e) (bounded_board c.args.map.now c.args.board.now c.args.orders.now c.requires.is_of c.requires.orders c.facts-2.ensures c.facts.ensures.provinces_most)

pub returns-clause-equations : goal.returns-clause-equations
returns-clause-equations c =
    let e : situation_of c.in_ok-table.table ≡ situation_on c.args.map.now c.args.board.now c.args.orders.now = c.in_ok-table.ensures ∙ ap (situation_on c.args.map.now c.args.board.now) c.as_slice.ensures in
    if_ok_more _ _ c.resolution_of.result (λ r l. (resolved_board c.args.map.now c.args.board.now c.args.orders.now c.requires.is_of c.requires.orders c.facts-2.ensures c.in_ok-steps.steps.items (known_of c.explain.new.values) c.explain.new.tests (situation_of c.in_ok-table.table) e c.in_ok-steps.ensures.explained r l).equations) c.resolution_of.ensures

pub returns-clause-explained : goal.returns-clause-explained
returns-clause-explained c =
    let e : situation_of c.in_ok-table.table ≡ situation_on c.args.map.now c.args.board.now c.args.orders.now = c.in_ok-table.ensures ∙ ap (situation_on c.args.map.now c.args.board.now) c.as_slice.ensures in
    if_ok_more _ _ c.resolution_of.result (λ r l. (resolved_board c.args.map.now c.args.board.now c.args.orders.now c.requires.is_of c.requires.orders c.facts-2.ensures c.in_ok-steps.steps.items (known_of c.explain.new.values) c.explain.new.tests (situation_of c.in_ok-table.table) e c.in_ok-steps.ensures.explained r l).explained) c.resolution_of.ensures

pub returns-clause-only : goal.returns-clause-only
returns-clause-only c =
    let e : situation_of c.in_ok-table.table ≡ situation_on c.args.map.now c.args.board.now c.args.orders.now = c.in_ok-table.ensures ∙ ap (situation_on c.args.map.now c.args.board.now) c.as_slice.ensures in
    if_ok_more _ _ c.resolution_of.result (λ r l. (resolved_board c.args.map.now c.args.board.now c.args.orders.now c.requires.is_of c.requires.orders c.facts-2.ensures c.in_ok-steps.steps.items (known_of c.explain.new.values) c.explain.new.tests (situation_of c.in_ok-table.table) e c.in_ok-steps.ensures.explained r l).only) c.resolution_of.ensures

pub returns-clause-broken : goal.returns-clause-broken
returns-clause-broken c =
    let e : situation_of c.in_ok-table.table ≡ situation_on c.args.map.now c.args.board.now c.args.orders.now = c.in_ok-table.ensures ∙ ap (situation_on c.args.map.now c.args.board.now) c.as_slice.ensures in
    if_ok_more _ _ c.resolution_of.result (λ r l. (resolved_board c.args.map.now c.args.board.now c.args.orders.now c.requires.is_of c.requires.orders c.facts-2.ensures c.in_ok-steps.steps.items (known_of c.explain.new.values) c.explain.new.tests (situation_of c.in_ok-table.table) e c.in_ok-steps.ensures.explained r l).broken) c.resolution_of.ensures

pub returns-clause-few : goal.returns-clause-few
returns-clause-few c =
    let e : situation_of c.in_ok-table.table ≡ situation_on c.args.map.now c.args.board.now c.args.orders.now = c.in_ok-table.ensures ∙ ap (situation_on c.args.map.now c.args.board.now) c.as_slice.ensures in
    if_ok_more _ _ c.resolution_of.result (λ r l. (resolved_board c.args.map.now c.args.board.now c.args.orders.now c.requires.is_of c.requires.orders c.facts-2.ensures c.in_ok-steps.steps.items (known_of c.explain.new.values) c.explain.new.tests (situation_of c.in_ok-table.table) e c.in_ok-steps.ensures.explained r l).few) c.resolution_of.ensures

pub returns-clause-ordered : goal.returns-clause-ordered
returns-clause-ordered c =
    let e : situation_of c.in_ok-table.table ≡ situation_on c.args.map.now c.args.board.now c.args.orders.now = c.in_ok-table.ensures ∙ ap (situation_on c.args.map.now c.args.board.now) c.as_slice.ensures in
    if_ok_more _ _ c.resolution_of.result (λ r l. (resolved_board c.args.map.now c.args.board.now c.args.orders.now c.requires.is_of c.requires.orders c.facts-2.ensures c.in_ok-steps.steps.items (known_of c.explain.new.values) c.explain.new.tests (situation_of c.in_ok-table.table) e c.in_ok-steps.ensures.explained r l).ordered) c.resolution_of.ensures

pub returns-clause-counted : goal.returns-clause-counted
returns-clause-counted c = if_ok_more _ _ c.resolution_of.result (λ r l. rw (l.steps, l.tests) c.in_ok-steps.ensures.counted) c.resolution_of.ensures

pub returns-clause-tested : goal.returns-clause-tested
returns-clause-tested c =
    let e : situation_of c.in_ok-table.table ≡ situation_on c.args.map.now c.args.board.now c.args.orders.now = c.in_ok-table.ensures ∙ ap (situation_on c.args.map.now c.args.board.now) c.as_slice.ensures in
    if_ok_more _ _ c.resolution_of.result (λ r l. rw l.tests (subst (λ (s : Situation). c.explain.new.tests ≤ decided_in s + mentions_in s) e c.in_ok-steps.ensures.tested)) c.resolution_of.ensures
