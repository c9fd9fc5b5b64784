use Rattle.std.proofs.Common.{◌≡◌, ◌+◌, ◌⊎◌, inl, inr, codes, List, ℕ, sym, ◌∙◌}
use Rattle.std.proofs.lemmas.Bool.{false≢true}
use Rattle.std.proofs.lemmas.Slice.Eq.{bytes_eq-Decides}
use Rattle.dip_desk_state.specs.Records.{Public}
use Rattle.dip_desk_state.specs.Rows as rows
use Rattle.dip_check_papers.specs.Checks.{IsJudgedNext}
use Rattle.dip_check_papers.specs.Games.{IsDraw, IsNotice}
use Rattle.dip_check_papers.specs.Printed.{first_line_of}
use Rattle.dip_check_papers.proofs.Coming.{ok_weaker}
use Rattle.dip_check_papers.proofs.Judged.{judged_fewer}
use Rattle.dip_check_papers.proofs.Judging.{tick_due}
use Rattle.dip_check_papers.proofs.KindsApart.{kind_words, notice_first, notice_no_draw}
use Rattle.dip_check.proofs.checking.check_other.Goals as goal

pub returns-then-eq : goal.returns-then-eq
returns-then-eq c =
    let m = c.args.map.now in
    let p : Public = rows.public c.args.before.now in
    let text : List ℕ = c.args.text.now in
    let same : c.first_line-title.result.now ≡ c.as_str.result.now = (bytes_eq-Decides c.first_line-title.result.now c.as_str.result.now).0 (sym c.eq.ensures ∙ c.if-eq.true) in
    let title : (first_line_of text).0 ≡ kind_words (c.args.before.now.papers + 1) (codes "notice") = sym c.first_line-title.ensures ∙ same ∙ c.as_str.ensures.value ∙ c.in_ok-wanted.ensures in
    ok_weaker (IsJudgedNext m p text (IsNotice m p text)) (IsJudgedNext m p text (λ new. IsNotice m p text new ⊎ IsDraw m p text new)) c.check_notice.result
    (λ v said. judged_fewer m p text (IsNotice m p text) (λ new. IsNotice m p text new ⊎ IsDraw m p text new) v (λ new h. elim h [
      | inl notice ↦ notice
      | inr draw ↦ absurd (notice_no_draw m p text new title draw)
    ]) said) c.check_notice.ensures

pub returns-then-is_due : goal.returns-then-is_due
returns-then-is_due c =
    let m = c.args.map.now in
    let p : Public = rows.public c.args.before.now in
    let text : List ℕ = c.args.text.now in
    let wanted : c.as_str.result.now ≡ kind_words (c.args.before.now.papers + 1) (codes "notice") = c.as_str.ensures.value ∙ c.in_ok-wanted.ensures in
    ok_weaker (IsJudgedNext m p text (IsDraw m p text)) (IsJudgedNext m p text (λ new. IsNotice m p text new ⊎ IsDraw m p text new)) c.check_on_time.result
    (λ v said. judged_fewer m p text (IsDraw m p text) (λ new. IsNotice m p text new ⊎ IsDraw m p text new) v (λ new h. elim h [
      | inl notice ↦
          absurd (false≢true (sym c.if-eq.false ∙ c.eq.ensures
          ∙ (bytes_eq-Decides c.first_line-title.result.now c.as_str.result.now).1 (c.first_line-title.ensures ∙ notice_first m p text new notice ∙ sym wanted)))
      | inr draw ↦ draw
    ]) said) c.check_on_time.ensures

pub returns : goal.returns
returns c = λ new h.
    let m = c.args.map.now in
    let p : Public = rows.public c.args.before.now in
    let text : List ℕ = c.args.text.now in
    let wanted : c.as_str.result.now ≡ kind_words (c.args.before.now.papers + 1) (codes "notice") = c.as_str.ensures.value ∙ c.in_ok-wanted.ensures in
    elim h [
      | inl notice ↦
          false≢true (sym c.if-eq.false ∙ c.eq.ensures
          ∙ (bytes_eq-Decides c.first_line-title.result.now c.as_str.result.now).1 (c.first_line-title.ensures ∙ notice_first m p text new notice ∙ sym wanted))
      | inr draw ↦ false≢true (sym c.if-is_due.false ∙ c.is_due.ensures ∙ tick_due p draw.tick draw.ticks)
    ]
