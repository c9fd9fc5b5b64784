use Rattle.dip_decide_rules.specs.Given.{situation_of}
use Rattle.dip_decide_rules.specs.Steps.{steps_of}
use Rattle.dip_decide.proofs.Tested.{worked_on, counts_on}
use Rattle.dip_decide.proofs.working.work_off.Goals as goal

pub work_on-requires-clause-work : goal.work_on-requires-clause-work
work_on-requires-clause-work c = rw c.in-Some.ensures.some at c.loop-d.invariant.0.work

pub loop-d-preserved : goal.loop-d-preserved
loop-d-preserved c = (worked_on (situation_of c.args.table.now) _ _ _ _ _ _ _ _ _ _ c.loop-d.invariant.0 c.in_ok-work_on.ensures.worked, counts_on (steps_of c.args.steps.now.items) (steps_of c.loop-d.steps.items) (steps_of c.work_on.new.steps.items) _ _ _ c.loop-d.invariant.1 c.in_ok-work_on.ensures.counted)

pub returns-clause-worked : goal.returns-clause-worked
returns-clause-worked c = rw c.in_default.ensures.none at c.loop-d.invariant.0
