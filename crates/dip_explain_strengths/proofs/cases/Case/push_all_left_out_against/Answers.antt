use Rattle.std.proofs.Common.{◌∙◌, ap, false, string_bytes, sym, true}
use Rattle.dip_explain_strengths.proofs.Filtering.{nothing_more, step_kept}
use Rattle.dip_explain_strengths.proofs.cases.Case.push_all_left_out_against.Goals.{then-is_left_out_against+in_ok-push_left_out_against, else-is_left_out_against}
use Rattle.dip_explain_strengths.proofs.cases.Case.push_all_left_out_against.Goals as goal

pub loop-h-preserved : goal.loop-h-preserved
loop-h-preserved c = elim c.if-is_left_out_against.branch [
  | then-is_left_out_against+in_ok-push_left_out_against w ↦
      step_kept _ _ c.deref-h-items.result.now c.loop-h.h-index c.h-item.result true (string_bytes c.loop-h.out) (string_bytes c.if-is_left_out_against.out) _
      c.loop-h-test.true c.h-item.is (sym c.is_left_out_against.ensures ∙ w.if-is_left_out_against.true) (ap string_bytes w.out-is ∙ w.in_ok-push_left_out_against.ensures) c.loop-h.invariant
  | else-is_left_out_against w ↦
      step_kept _ _ c.deref-h-items.result.now c.loop-h.h-index c.h-item.result false (string_bytes c.loop-h.out) (string_bytes c.if-is_left_out_against.out) _
      c.loop-h-test.true c.h-item.is (sym c.is_left_out_against.ensures ∙ w.if-is_left_out_against.false) (nothing_more _ _ (ap string_bytes w.out-is)) c.loop-h.invariant
]
