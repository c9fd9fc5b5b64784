use Rattle.std.proofs.Common.{◌≡◌, ◌==◌, drop, find}
use Rattle.dip_turn_phases.proofs.orders.order_at.Given as goal

abbrev pub invariant-loop-placed : goal.invariant-loop-placed
invariant-loop-placed l = find (λ o. o.unit.place.prov == l.prov) (drop l.placed-index l.orders) ≡ find (λ o. o.unit.place.prov == l.prov) l.orders
