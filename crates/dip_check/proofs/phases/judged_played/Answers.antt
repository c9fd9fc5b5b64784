use Rattle.std.proofs.Common.{◌≡◌, ◌++◌, ◌∷◌, codes, ℕ, List, ap, rules, subst, sym, ◌∙◌}
use Rattle.std.specs.Fmt.{decimal}
use Rattle.dip_map.specs.Boards.{IsOf, Position}
use Rattle.dip_desk_games.specs.Ticking.{public_played}
use Rattle.dip_desk_state.specs.Records.{Public}
use Rattle.dip_desk_state.specs.Rows as rows
use Rattle.dip_turn.specs.Reports.{IsPlayed}
use Rattle.dip_turn_papers.specs.Papers.{paper_text}
use Rattle.dip_check.proofs.Coming.{judged_by_wanted}
use Rattle.dip_check_papers.proofs.Coming.{ok_weaker}
use Rattle.dip_check_papers.proofs.GameTexts.{due_head, due_in, due_tail, tail_no_u}
use Rattle.dip_check_papers.proofs.Judging.{later_tick}
use Rattle.dip_check_papers.proofs.ToldPapers.{Reads, told_of}
use Rattle.dip_check.specs.Phases.{IsComparedPhase, IsJudgedBy}
use Rattle.dip_check_papers.specs.Checks.{paper_at}
use Rattle.dip_check_papers.specs.Differing.{first_other}
use Rattle.dip_check_papers.specs.Games.{IsTick}
use Rattle.dip_check.proofs.phases.judged_played.Goals as goal

pub returns : goal.returns
returns c =
    let m = c.args.map.now in
    let p : Public = rows.public c.args.before.now in
    let text : List ℕ = c.args.text.now in
    let board : Position = c.in-Ok.board in
    let report = c.in-Ok.report in
    let told : ℕ = c.tick_told-tick.result in
    let wanted : List ℕ = c.as_str-in-Ok.result.now in
    let lies : c.deref.result.now ≡ c.args.before.now.board.value = search rules in
    let copy : c.in_ok-board.board ≡ c.args.before.now.board.value = c.in_ok-board.ensures ∙ lies in
    let played : IsPlayed m p.board c.args.orders.now board report = subst (λ (b : Position). IsPlayed m b c.args.orders.now board report) copy c.in-Ok.ensures.played in
    let again : c.in_ok-again-in-Ok.again ≡ board = search rules in
    let ticks : IsTick p told = later_tick p told c.requires.due c.tick_told-tick.ensures.due c.tick_told-tick.ensures.timely in
    let earliest : c.as_str.result.now ≡ paper_at m p p.due board report =
    c.as_str.ensures.value ∙ c.in_ok-_first-in-Ok.ensures.paper ∙ ap (λ (b : Position). paper_at m p p.due b report) again in
    let first : Public = public_played p.due p board report.course in
    let reads : Reads m p board report text told = λ tick rest is low timely.
    c.tick_told-tick.ensures.told (due_head m report first) (codes "E " ++ (decimal first.due ++ 32 ∷ due_tail m first)) rest tick (earliest ∙ due_in m report first) (tail_no_u m first c.facts.ensures) is low timely in
    let after : rows.public c.in_ok-after-in-Ok.after ≡ public_played told p board report.course = c.in_ok-after-in-Ok.ensures.after in
    let paper : wanted ≡ paper_at m p told board report = c.as_str-in-Ok.ensures.value ∙ c.in_ok-after-in-Ok.ensures.paper in
    let new : Public = public_played told p board report.course in
    let of : IsOf m new.board = c.boards_stay_of_their_map.ensures m p.board c.args.orders.now board report c.facts.ensures c.requires.of_map c.requires.given played in
    ok_weaker (IsComparedPhase text wanted report c.in_ok-after-in-Ok.after) (IsJudgedBy m p c.args.orders.now text) c.compared_phase.result
    (λ j same. judged_by_wanted m p c.args.orders.now text wanted report c.in_ok-after-in-Ok.after j same c.requires.room
    (λ is. record {
      tick = told;
      ticks = ticks;
      orders = c.args.orders.now;
      given = c.requires.given;
      by_place = c.requires.placed;
      board = board;
      played = played;
      after = after;
      told = is ∙ paper ∙ ap (paper_text m report) (sym after);
    })
    (subst (λ (q : Public). IsOf m q.board) (sym after) of)
    (λ fault differ tells. told_of c.phases_have_one_result.ensures m p c.args.orders.now board report text told fault played ticks reads (λ is. differ (is ∙ sym paper))
    (tells ∙ ap (first_other text) paper)))
    c.compared_phase.ensures
