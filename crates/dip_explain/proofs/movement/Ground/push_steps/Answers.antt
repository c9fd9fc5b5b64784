use Rattle.std.proofs.Common.{string_bytes}
use Rattle.dip_decide_rules.specs.Given.{known_of, situation_of}
use Rattle.dip_decide_rules.specs.Results.{values_in}
use Rattle.dip_explain.proofs.Learning.{steps_kept}
use Rattle.dip_explain.proofs.movement.Ground.push_steps.Goals as goal

pub loop-step-preserved : goal.loop-step-preserved
loop-step-preserved c =
    steps_kept c.args.self.now.map.now c.args.self.now.orders.now (situation_of c.args.self.now.table.now) (values_in c.args.self.now.resolution.now) c.deref-step-items.result.now
    c.loop-step.step-index c.step-item.result (known_of c.loop-step.known) (known_of c.learn_step.new.known) (string_bytes c.loop-step.out) (string_bytes c.push_step.new.out) _
    c.loop-step-test.true c.step-item.is c.in_ok-push_step.ensures c.learn_step.ensures c.loop-step.invariant
