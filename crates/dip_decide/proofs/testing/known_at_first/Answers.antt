use Rattle.std.proofs.Common.{◌≡◌, ◌∙◌, ap}
use Rattle.dip_decide_rules.specs.Given.{situation_of}
use Rattle.dip_decide_rules.specs.Meaning.{situation_on}
use Rattle.dip_decide_rules.specs.Movement.{at_first}
use Rattle.dip_decide.proofs.ResultLaws.{within}
use Rattle.dip_decide_rules.proofs.Rounds.{if_ok_more}
use Rattle.dip_decide.proofs.testing.known_at_first.Goals as goal

pub table_on-requires : goal.table_on-requires
table_on-requires c = record { within = rw c.as_slice.ensures (within c.args.map.now c.args.board.now c.args.orders.now c.requires.is_of c.requires.orders) }

pub returns : goal.returns
returns c =
    let e : situation_of c.in_ok-table.table ≡ situation_on c.args.map.now c.args.board.now c.args.orders.now = c.in_ok-table.ensures ∙ ap (situation_on c.args.map.now c.args.board.now) c.as_slice.ensures in
    if_ok_more _ _ c.values_at_start.result (λ k h. h ∙ ap at_first e) c.values_at_start.ensures
