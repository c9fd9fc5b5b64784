use Rattle.std.proofs.Common.{◌≡◌, ◌++◌, drop, map}
use Rattle.dip_orders_placed.specs.Standing.{order_among}
use Rattle.dip_orders_placed.proofs.standing.orders_of.Given as goal

abbrev pub invariant-loop-unit : goal.invariant-loop-unit
invariant-loop-unit l = l.placed.items ++ map (order_among l.pending) (drop l.unit-index l.units) ≡ map (order_among l.pending) l.units
