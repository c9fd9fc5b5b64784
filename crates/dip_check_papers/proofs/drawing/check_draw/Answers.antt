use Rattle.std.proofs.Common.{◌≡◌, ◌++◌, ℕ, List, Bor, map, inr, refl, subst, sym, ap, ◌∙◌}
use Rattle.dip_map.specs.Boards.{IsOf, Position}
use Rattle.dip_desk_games.specs.Drawing.{public_drawn}
use Rattle.dip_desk_state.specs.Records.{Public}
use Rattle.dip_desk_state.specs.Rows as rows
use Rattle.dip_reports.specs.Texts.{draw_paper}
use Rattle.dip_check_papers.specs.Checks.{IsCompared, IsJudgedNext, MayShare}
use Rattle.dip_check_papers.specs.Games.{IsDraw}
use Rattle.dip_check_papers.specs.Parts.{words_in}
use Rattle.dip_check_papers.specs.Shared.{draw_head, sharers}
use Rattle.dip_check_papers.proofs.Coming.{ok_weaker}
use Rattle.dip_check_papers.proofs.DrawLemmas.{draw_begins, draw_rest, sharers_of}
use Rattle.dip_check_papers.proofs.Judged.{judged_where_wanted}
use Rattle.dip_check_papers.proofs.drawing.check_draw.Goals as goal

pub returns-then-not-may_share : goal.returns-then-not-may_share
returns-then-not-may_share c = λ new h.
    let m = c.args.map.now in
    let p : Public = rows.public c.args.before.now in
    let words : List (List ℕ) = map {A = Bor (List ℕ)} {B = List ℕ} (λ w. w.now) c.as_slice.result.now in
    let told : c.args.text.now ≡ draw_head p ++ draw_rest m h.powers p = h.told ∙ ap (draw_paper m) h.after ∙ draw_begins m h.powers p in
    let read : words ≡ words_in (draw_rest m h.powers p) = ap (map {A = Bor (List ℕ)} {B = List ℕ} (λ w. w.now)) c.as_slice.ensures.value ∙ c.in_ok-words.ensures (draw_rest m h.powers p) told in
    let powers : c.as_slice-2.result.now ≡ h.powers = c.as_slice-2.ensures.value ∙ c.in_ok-powers.ensures ∙ ap (λ (b : Position). sharers m b words) c.deref.ensures ∙ ap (sharers m p.board) read
    ∙ sharers_of m p h.powers c.facts.ensures h.named h.survive in
    c.if-not-may_share.ensures.no refl (subst (λ (b : Position). MayShare m b c.as_slice-2.result.now) (sym c.deref-2.ensures)
    (subst (MayShare m p.board) (sym powers) (record { named = h.named; survive = h.survive })))

pub returns : goal.returns
returns c =
    let m = c.args.map.now in
    let p : Public = rows.public c.args.before.now in
    let text : List ℕ = c.args.text.now in
    let wanted : List ℕ = c.as_str.result.now in
    let words : List (List ℕ) = map {A = Bor (List ℕ)} {B = List ℕ} (λ w. w.now) c.as_slice.result.now in
    let powers : List ℕ = c.in_ok-powers.powers.items in
    let here : c.as_slice-2.result.now ≡ powers = c.as_slice-2.ensures.value in
    let share : MayShare m p.board powers = subst (MayShare m p.board) here (subst (λ (b : Position). MayShare m b c.as_slice-2.result.now) c.deref-2.ensures (c.if-not-may_share.ensures.yes refl)) in
    let after : rows.public c.in_ok-after.after ≡ public_drawn powers p = c.in_ok-after.ensures in
    let of : IsOf m (public_drawn powers p).board = c.requires.of_map in
    let told : wanted ≡ draw_paper m (rows.public c.in_ok-after.after) = c.as_str.ensures.value ∙ c.in_ok-wanted.ensures in
    ok_weaker (IsCompared text wanted (rows.public c.in_ok-after.after)) (IsJudgedNext m p text (IsDraw m p text)) c.comparison_verdict.result
    (λ v same. judged_where_wanted m p text wanted (rows.public c.in_ok-after.after) (IsDraw m p text) v same
    (λ right. record {
      room = c.requires.room;
      kind = inr (inr (record {
        tick = c.args.tick;
        ticks = c.requires.ticks;
        powers = powers;
        named = share.named;
        survive = share.survive;
        after = after;
        told = right ∙ told;
      }));
    })
    (λ new h.
    let begins : text ≡ draw_head p ++ draw_rest m h.powers p = h.told ∙ ap (draw_paper m) h.after ∙ draw_begins m h.powers p in
    let read : words ≡ words_in (draw_rest m h.powers p) = ap (map {A = Bor (List ℕ)} {B = List ℕ} (λ w. w.now)) c.as_slice.ensures.value ∙ c.in_ok-words.ensures (draw_rest m h.powers p) begins in
    let drawn : powers ≡ h.powers = c.in_ok-powers.ensures ∙ ap (λ (b : Position). sharers m b words) c.deref.ensures ∙ ap (sharers m p.board) read ∙ sharers_of m p h.powers c.facts.ensures h.named h.survive in
    h.told ∙ ap (draw_paper m) (h.after ∙ ap (λ s. public_drawn s p) (sym drawn) ∙ sym after) ∙ sym told)
    (subst (λ (q : Public). IsOf m q.board) (sym after) of)) c.comparison_verdict.ensures
