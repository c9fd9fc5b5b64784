use Rattle.std.proofs.Common.{◌≡◌, ◌≤◌, ℕ, List, Bor, map, subst, sym, ap, ◌∙◌}
use Rattle.dip_map.specs.Boards.{IsOf}
use Rattle.dip_desk_games.specs.Opening.{opening_public}
use Rattle.dip_desk_state.specs.Records.{Public}
use Rattle.dip_desk_state.specs.Rows as rows
use Rattle.dip_reports.specs.Texts.{opening_paper}
use Rattle.dip_check_papers.proofs.Coming.{ok_weaker}
use Rattle.dip_check_papers.proofs.Judged.{judged_first_where_wanted}
use Rattle.dip_check_papers.proofs.OpeningLemmas.{AreSaid, of_intent, opening_read, same_opening}
use Rattle.dip_check_papers.proofs.OpeningLines.{openings_furthest}
use Rattle.dip_check_papers.specs.Checks.{IsCompared, IsJudgedFirst}
use Rattle.dip_check_papers.specs.Differing.{first_other}
use Rattle.dip_check_papers.specs.Games.{IsOpening}
use Rattle.dip_check_papers.specs.Parts.{game_line_in, lines_in, words_in}
use Rattle.dip_check_papers.proofs.openings.check_terms.Goals as goal

pub returns : goal.returns
returns c =
    let m = c.args.map.now in
    let text : List ℕ = c.args.text.now in
    let wanted : List ℕ = c.as_str.result.now in
    let words : List (List ℕ) = map {A = Bor (List ℕ)} (λ w. w.now) c.args.words.now in
    let after : Public = rows.public c.in_ok-after.after in
    let is : after ≡ opening_public m c.args.game.now c.due_told-due.result c.period_told-period.result c.says_yes-grey.result c.says_yes-intent.result = c.in_ok-after.ensures in
    let told : wanted ≡ opening_paper m after = c.as_str.ensures.value ∙ c.in_ok-wanted.ensures in
    let agree : (paper : List ℕ) (new : Public) (h : IsOpening m paper new) → AreSaid (words_in (game_line_in (lines_in text))) h.game h.due h.period h.grey h.intent → new ≡ after = λ paper new h says.
    let said : AreSaid words h.game h.due h.period h.grey h.intent = subst (λ ws. AreSaid ws h.game h.due h.period h.grey h.intent) (sym c.requires.words) says in
    h.after ∙ sym (is ∙ same_opening m c.args.game.now h.game c.due_told-due.result h.due c.period_told-period.result h.period
    c.says_yes-grey.result h.grey c.says_yes-intent.result h.intent (c.requires.game ∙ said.named) (c.due_told-due.ensures.told h.due h.timely said.tick)
    (c.period_told-period.ensures.told h.period h.least h.most said.ticks) (c.says_yes-grey.ensures ∙ said.says_grey) (c.says_yes-intent.ensures ∙ said.says_intent)) in
    ok_weaker (IsCompared text wanted after) (IsJudgedFirst m text) c.comparison_verdict.result
    (λ v same. judged_first_where_wanted m text wanted after v same
    (λ right. record {
      game = c.args.game.now;
      due = c.due_told-due.result;
      period = c.period_told-period.result;
      grey = c.says_yes-grey.result;
      intent = c.says_yes-intent.result;
      named = c.requires.named;
      timely = c.due_told-due.ensures.timely;
      least = c.period_told-period.ensures.least;
      most = c.period_told-period.ensures.most;
      after = is;
      told = right ∙ told;
    })
    (λ new h. h.told ∙ ap (opening_paper m) (agree text new h (opening_read m text new h)) ∙ sym told)
    (λ paper new h. subst (λ w. first_other text paper ≤ first_other text w) (sym told) (openings_furthest m text paper new after h (agree paper new h)))
    (subst (λ (q : Public). IsOf m q.board) (sym is) (of_intent m _ _ (c.openings_are_of_their_map.ensures m c.facts.ensures)))) c.comparison_verdict.ensures
