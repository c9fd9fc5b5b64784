use Rattle.dip_decide_rules.specs.Given.{situation_of}
use Rattle.dip_decide_rules.proofs.Searches.{spread_step}
use Rattle.dip_decide_rules.proofs.chains.spread.Goals as goal

pub loop-fleet-preserved : goal.loop-fleet-preserved
loop-fleet-preserved c = spread_step (situation_of c.args.table.now).next c.args.from c.args.fleets.now c.loop-fleet.fleet-index c.fleet-item.result _ _ _ c.loop-fleet-test.true c.fleet-item.is c.loop-fleet.invariant c.in_ok-spread_to.ensures
