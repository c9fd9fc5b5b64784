use Rattle.dip_orders_placed.proofs.StandingLaws.{orders_in_force}
use Rattle.dip_orders_placed.proofs.standing.Orders.standing.Goals as goal

pub invariant_of-result : goal.invariant_of-result
invariant_of-result c = rw c.in_ok-placed.ensures (orders_in_force c.args.pending.now c.units.result.now)
