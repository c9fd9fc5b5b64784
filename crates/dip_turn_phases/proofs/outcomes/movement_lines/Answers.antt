use Rattle.std.proofs.Common.{arith}
use Rattle.dip_decide_rules.specs.Results.{values_in}
use Rattle.dip_turn_phases.specs.Outcomes.{line_on}
use Rattle.dip_turn_phases.proofs.ListLemmas.{map_step}
use Rattle.dip_turn_phases.proofs.outcomes.movement_lines.Goals as goal

pub loop-placed-preserved : goal.loop-placed-preserved
loop-placed-preserved c =
    rw c.in_ok-push.ensures.items
    (map_step (line_on c.args.map.now c.args.moved.now (values_in c.args.resolution.now) c.args.orders.now) c.args.given.now _ _ c.loop-placed.placed-index c.placed-item.result
    c.in_ok-line.line (omega arith) c.placed-item.is c.in_ok-line.ensures c.loop-placed.invariant)
