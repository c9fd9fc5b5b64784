use Rattle.dip_decide_rules.specs.Given.{situation_of, known_of}
use Rattle.dip_decide.proofs.Tested.{paths_step}
use Rattle.dip_decide.proofs.working.put_paths.Goals as goal

pub loop-unit-preserved : goal.loop-unit-preserved
loop-unit-preserved c =
    paths_step (situation_of c.args.table.now) (known_of c.args.values.now) c.requires.situation c.requires.started c.args.units.now c.loop-unit.unit-index c.unit-item.result _ _ _ c.loop-unit-test.true c.unit-item.is c.loop-unit.invariant c.in_ok-put.ensures
