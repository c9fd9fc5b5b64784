use Rattle.std.proofs.Common.{◌≡◌, ℕ, List, inl, inr, refl, subst, sym, ap, ◌∙◌}
use Rattle.dip_map.specs.Boards.{IsOf}
use Rattle.dip_letters.specs.Notes.{NoticeRequest}
use Rattle.dip_letters.specs.Views.{notice_request}
use Rattle.dip_desk_games.specs.Noting.{public_noted}
use Rattle.dip_desk_state.specs.Records.{Public}
use Rattle.dip_desk_state.specs.Rows as rows
use Rattle.dip_reports.specs.Texts.{notice_paper}
use Rattle.dip_check_papers.proofs.Coming.{ok_weaker}
use Rattle.dip_check_papers.proofs.Judged.{judged_where_wanted}
use Rattle.dip_check_papers.specs.Checks.{IsCompared, IsJudgedNext, IsNoted}
use Rattle.dip_check_papers.proofs.notices.check_command.Goals as goal

pub returns : goal.returns
returns c =
    let m = c.args.map.now in
    let p : Public = rows.public c.args.before.now in
    let text : List ℕ = c.args.text.now in
    let wanted : List ℕ = c.as_str.result.now in
    let notice : NoticeRequest = notice_request c.args.notice.now in
    let after : rows.public c.in_ok-after.after ≡ public_noted notice p = c.in_ok-after.ensures in
    let of : IsOf m (public_noted notice p).board = c.requires.of_map in
    let told : wanted ≡ notice_paper m notice (rows.public c.in_ok-after.after) = c.as_str.ensures.value ∙ c.in_ok-wanted.ensures in
    ok_weaker (IsCompared text wanted (rows.public c.in_ok-after.after)) (IsJudgedNext m p text (IsNoted m p notice text)) c.comparison_verdict.result
    (λ v same. judged_where_wanted m p text wanted (rows.public c.in_ok-after.after) (IsNoted m p notice text) v same
    (λ right. record {
      room = c.requires.room;
      kind = inr (inl (record {
        notice = notice;
        fits = c.requires.command.fits;
        taken = rw c.requires.going refl;
        after = after;
        told = right ∙ told;
      }));
    })
    (λ new paper. paper.told ∙ ap (notice_paper m notice) (paper.after ∙ sym after) ∙ sym told)
    (subst (λ (q : Public). IsOf m q.board) (sym after) of)) c.comparison_verdict.ensures
