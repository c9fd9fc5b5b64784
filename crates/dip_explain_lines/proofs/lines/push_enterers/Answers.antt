use Rattle.std.proofs.Common.{◌∙◌, ap, false, string_bytes, sym, true}
use Rattle.dip_explain_strengths.proofs.Filtering.{nothing_more, step_kept}
use Rattle.dip_explain_lines.proofs.lines.push_enterers.Goals.{then-enters+in_ok-push_enterer, else-enters}
use Rattle.dip_explain_lines.proofs.lines.push_enterers.Goals as goal

pub loop-n-preserved : goal.loop-n-preserved
loop-n-preserved c = elim c.if-enters.branch [
  | then-enters+in_ok-push_enterer w ↦
      step_kept _ _ c.deref-n-items.result.now c.loop-n.n-index c.n-item.result true (string_bytes c.loop-n.out) (string_bytes c.if-enters.out) _
      c.loop-n-test.true c.n-item.is (sym c.enters.ensures ∙ w.if-enters.true) (ap string_bytes w.out-is ∙ w.in_ok-push_enterer.ensures) c.loop-n.invariant
  | else-enters w ↦
      step_kept _ _ c.deref-n-items.result.now c.loop-n.n-index c.n-item.result false (string_bytes c.loop-n.out) (string_bytes c.if-enters.out) _
      c.loop-n-test.true c.n-item.is (sym c.enters.ensures ∙ w.if-enters.false) (nothing_more _ _ (ap string_bytes w.out-is)) c.loop-n.invariant
]
