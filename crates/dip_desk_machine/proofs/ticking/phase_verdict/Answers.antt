use Rattle.std.proofs.Common.{◌≡◌, ap, rules, subst, ◌∙◌, map, List}
use Rattle.dip_map.specs.Boards.{Position}
use Rattle.dip_orders_placed.specs.declared.placed.PlacedOrder.{PlacedOrder}
use Rattle.dip_desk_state.specs.Records.{Public}
use Rattle.dip_desk_machine.specs.MasterCommands.{paper_verdict}
use Rattle.dip_desk_games.specs.Ticking.{by_power, orders_of, orders_of_seats}
use Rattle.dip_desk_state.specs.Rows as rows
use Rattle.dip_desk_state.specs.declared.records.Own.{Own}
use Rattle.dip_turn.specs.Reports.{IsPlayed}
use Rattle.dip_desk_machine.proofs.ticking.phase_verdict.Goals as goal

pub returns-in_ok-paper_verdict-in-Ok-clause-value : goal.returns-in_ok-paper_verdict-in-Ok-clause-value
returns-in_ok-paper_verdict-in-Ok-clause-value c =
    let map_now = c.args.map.now in
    let lies : c.deref.result.now ≡ c.args.whole.public.board.value = search rules in
    let same : c.in_ok-before.before ≡ c.args.whole.public.board.value = c.in_ok-before.ensures ∙ lies in
    let orders : c.as_slice-2.result.now ≡ orders_of map_now (rows.whole c.args.whole) =
    c.as_slice-2.ensures.value ∙ c.in_ok-orders.ensures.value ∙ ap (λ (b : Position). by_power map_now (orders_of_seats map_now b (map (λ o. rows.own o) c.as_slice.result.now))) same
    ∙ ap (λ (os : List Own). by_power map_now (orders_of_seats map_now c.args.whole.public.board.value (map (λ o. rows.own o) os))) c.as_slice.ensures.value in
    record {
      board = c.in-Ok.board;
      report = c.in-Ok.report;
      played = subst (λ (b : Position). IsPlayed map_now b (orders_of map_now (rows.whole c.args.whole)) c.in-Ok.board c.in-Ok.report) same
          (subst (λ (os : List PlacedOrder). IsPlayed map_now c.in_ok-before.before os c.in-Ok.board c.in-Ok.report) orders c.in-Ok.ensures.played);
      verdict = c.in_ok-paper_verdict-in-Ok.ensures ∙ ap (λ (p : Public). paper_verdict map_now c.in-Ok.report p) c.in_ok-after-in-Ok.ensures;
    }
