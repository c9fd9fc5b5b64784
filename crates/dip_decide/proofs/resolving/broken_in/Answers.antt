use Rattle.std.proofs.Common.{◌∙◌}
use Rattle.dip_decide_rules.proofs.Columns.{all_marked}
use Rattle.dip_decide_rules.proofs.Rounds.{if_ok_more}
use Rattle.dip_decide.proofs.resolving.broken_in.Goals as goal

pub returns : goal.returns
returns c =
    if_ok_more _ _ c.trues.result (λ v e. e ∙ all_marked c.args.steps.now c.args.map.now c.loop-step.step-index c.loop-step.marks.items _ c.loop-step-test.false c.as_slice.ensures.value c.loop-step.invariant) c.trues.ensures
