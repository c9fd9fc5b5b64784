use Rattle.std.proofs.Common.{◌≡◌, ℕ, List, Bor, map, inl, inr, refl, subst, sym, ap, ◌∙◌}
use Rattle.dip_map.specs.Boards.{IsOf}
use Rattle.dip_letters.specs.Letters.{FitsText}
use Rattle.dip_letters.specs.Notes.NoticeRequest.{Announce}
use Rattle.dip_desk_games.specs.Noting.{public_noted}
use Rattle.dip_desk_games.specs.Ticking.{is_over}
use Rattle.dip_desk_state.specs.Records.{Public}
use Rattle.dip_desk_state.specs.Rows as rows
use Rattle.dip_reports.specs.Texts.{notice_paper}
use Rattle.dip_check_papers.proofs.Coming.{and_false, ok_weaker}
use Rattle.dip_check_papers.proofs.Judged.{judged_where_wanted}
use Rattle.dip_check_papers.specs.Checks.{IsAnnounced, IsCompared, IsJudgedNext}
use Rattle.dip_check_papers.proofs.announcing.check_announcement.Goals as goal

pub returns : goal.returns
returns c =
    let m = c.args.map.now in
    let p : Public = rows.public c.args.before.now in
    let text : List ℕ = c.args.text.now in
    let wanted : List ℕ = c.as_str.result.now in
    let lines : List (List ℕ) = map {A = Bor (List ℕ)} (λ l. l.now) c.args.lines.now in
    let after : rows.public c.in_ok-after.after ≡ public_noted (Announce lines) p = c.in_ok-after.ensures in
    let of : IsOf m (public_noted (Announce lines) p).board = c.requires.of_map in
    let fits : FitsText lines = c.if-not-fits.ensures.fit refl in
    let told : wanted ≡ notice_paper m (Announce lines) (rows.public c.in_ok-after.after) = c.as_str.ensures.value ∙ c.in_ok-wanted.ensures in
    ok_weaker (IsCompared text wanted (rows.public c.in_ok-after.after)) (IsJudgedNext m p text (IsAnnounced m p lines text)) c.comparison_verdict.result
    (λ v same. judged_where_wanted m p text wanted (rows.public c.in_ok-after.after) (IsAnnounced m p lines text) v same
    (λ right. record {
      room = c.requires.room;
      kind = inr (inl (record {
        notice = Announce lines;
        fits = fits;
        taken = and_false (is_over p.status);
        after = after;
        told = right ∙ told;
      }));
    })
    (λ new paper. paper.1.told ∙ ap (notice_paper m (Announce lines)) (paper.1.after ∙ sym after) ∙ sym told)
    (subst (λ (q : Public). IsOf m q.board) (sym after) of)) c.comparison_verdict.ensures
