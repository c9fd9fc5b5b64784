use Rattle.std.proofs.Common.{◌≡◌, ◌+◌, ◌⊎◌, inl, inr, List, ℕ, sym, ◌∙◌}
use Rattle.std.proofs.lemmas.Bool.{false≢true}
use Rattle.dip_desk_state.specs.Records.{Public}
use Rattle.dip_desk_state.specs.Rows as rows
use Rattle.dip_check_papers.specs.Checks.{IsJudgedNext, IsJudgedPaper}
use Rattle.dip_check_papers.specs.Games.{IsDraw, IsNext, IsNotice, IsPhase}
use Rattle.dip_check_papers.specs.Printed.{first_line_of, title_words}
use Rattle.dip_check_papers.proofs.Coming.{ok_weaker}
use Rattle.dip_check_papers.proofs.Judged.{judged_fewer}
use Rattle.dip_check_papers.proofs.Judging.{phase_due, phase_first}
use Rattle.dip_check_papers.proofs.KindsApart.{phase_no_draw, phase_no_notice}
use Rattle.dip_check.proofs.checking.check_paper.Goals as goal

pub returns-then-not-branch-clause-judged : goal.returns-then-not-branch-clause-judged
returns-then-not-branch-clause-judged c =
    let m = c.args.map.now in
    let p : Public = rows.public c.args.before.now in
    let text : List ℕ = c.args.text.now in
    ok_weaker (IsJudgedNext m p text (λ new. IsNotice m p text new ⊎ IsDraw m p text new)) (IsJudgedPaper m p text) c.check_other.result
    (λ v said. judged_fewer m p text (λ new. IsNotice m p text new ⊎ IsDraw m p text new) (IsNext m p text) v (λ new h. elim h.kind [
      | inl phase ↦ absurd (false≢true (sym c.if-not-branch.true ∙ c.in_ok-has_phase_title.ensures.titled (phase_first m p text new phase)))
      | inr other ↦ other
    ]) said) c.check_other.ensures

pub returns-then-not-is_due-clause-judged : goal.returns-then-not-is_due-clause-judged
returns-then-not-is_due-clause-judged c =
    let m = c.args.map.now in
    let p : Public = rows.public c.args.before.now in
    let text : List ℕ = c.args.text.now in
    ok_weaker (IsJudgedNext m p text (λ new. IsNotice m p text new ⊎ IsDraw m p text new)) (IsJudgedPaper m p text) c.check_other-then-not-is_due.result
    (λ v said. judged_fewer m p text (λ new. IsNotice m p text new ⊎ IsDraw m p text new) (IsNext m p text) v (λ new h. elim h.kind [
      | inl phase ↦ absurd (false≢true (sym c.if-not-is_due.true ∙ c.is_due.ensures ∙ phase_due m p text new phase))
      | inr other ↦ other
    ]) said) c.check_other-then-not-is_due.ensures

pub returns-clause-judged : goal.returns-clause-judged
returns-clause-judged c =
    let m = c.args.map.now in
    let p : Public = rows.public c.args.before.now in
    let text : List ℕ = c.args.text.now in
    let title : (first_line_of text).0 ≡ title_words (c.args.before.now.papers + 1) c.args.before.now.board.value.phase = c.in_ok-has_phase_title.ensures.title c.if-not-branch.false in
    ok_weaker (IsJudgedNext m p text (IsPhase m p text)) (IsJudgedPaper m p text) c.check_phase.result
    (λ v said. judged_fewer m p text (IsPhase m p text) (IsNext m p text) v (λ new h. elim h.kind [
      | inl phase ↦ phase
      | inr (inl notice) ↦ absurd (phase_no_notice m p text new title notice)
      | inr (inr draw) ↦ absurd (phase_no_draw m p text new title draw)
    ]) said) c.check_phase.ensures.judged
