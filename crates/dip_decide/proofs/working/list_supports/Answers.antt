use Rattle.dip_decide_rules.specs.declared.decisions.Decision.TheVariants.{Support}
use Rattle.dip_decide_rules.specs.Given.{known_of}
use Rattle.dip_decide.proofs.Tested.{kind_all, kind_step, none_listed}
use Rattle.dip_decide.proofs.working.list_supports.Goals as goal

pub loop-unit-init : goal.loop-unit-init
loop-unit-init c = none_listed (known_of c.args.values.now) c.args.work.now

pub loop-unit-preserved : goal.loop-unit-preserved
loop-unit-preserved c = kind_step Support (known_of c.args.values.now) c.args.units.now c.loop-unit.unit-index c.unit-item.result _ _ _ c.loop-unit-test.true c.unit-item.is c.loop-unit.invariant c.in_ok-list_one.ensures

pub returns : goal.returns
returns c = kind_all Support (known_of c.args.values.now) c.args.units.now c.loop-unit.unit-index _ _ c.loop-unit-test.false c.loop-unit.invariant
