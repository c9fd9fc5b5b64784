use Rattle.std.proofs.Common.{◌∙◌, ◌++◌, ℕ, ap, codes, false, string_bytes, sym, true}
use Rattle.dip_explain_strengths.specs.Matters.{matter_of}
use Rattle.dip_explain_strengths.specs.StrengthTexts.{backer_text}
use Rattle.dip_explain_strengths.proofs.Filtering.{nothing_more, step_kept}
use Rattle.dip_explain_strengths.proofs.cases.Case.push_backers.Goals.{then-backs+in_ok-push_other_backer, else-backs}
use Rattle.dip_explain_strengths.proofs.cases.Case.push_backers.Goals as goal

pub loop-h-preserved : goal.loop-h-preserved
loop-h-preserved c = elim c.if-backs.branch [
  | then-backs+in_ok-push_other_backer w ↦
      step_kept _ (λ (x : ℕ). codes ", " ++ backer_text (matter_of c.args.self.now) x) c.deref-h-items.result.now c.loop-h.h-index c.h-item.result true (string_bytes c.loop-h.out) (string_bytes c.if-backs.out) _
      c.loop-h-test.true c.h-item.is (sym c.backs.ensures ∙ w.if-backs.true) (ap string_bytes w.out-is ∙ w.in_ok-push_other_backer.ensures) c.loop-h.invariant
  | else-backs w ↦
      step_kept _ (λ (x : ℕ). codes ", " ++ backer_text (matter_of c.args.self.now) x) c.deref-h-items.result.now c.loop-h.h-index c.h-item.result false (string_bytes c.loop-h.out) (string_bytes c.if-backs.out) _
      c.loop-h-test.true c.h-item.is (sym c.backs.ensures ∙ w.if-backs.false) (nothing_more _ _ (ap string_bytes w.out-is)) c.loop-h.invariant
]
