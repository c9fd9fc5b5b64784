use Rattle.std.proofs.Common.{◌≡◌, ◌&&◌, drop, find}
use Rattle.dip_orders_placed.specs.Standing.{is_in_force, is_same_unit}
use Rattle.dip_orders_placed.proofs.standing.found_order.Given as goal

abbrev pub invariant-loop-placed : goal.invariant-loop-placed
invariant-loop-placed l =
    find (λ o. is_same_unit o.unit l.unit && is_in_force o) (drop l.placed-index l.pending)
    ≡ find (λ o. is_same_unit o.unit l.unit && is_in_force o) l.pending
