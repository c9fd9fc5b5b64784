use Rattle.std.proofs.Common.{◌≡◌, ◌==◌, drop, find}
use Rattle.dip_orders_placed.specs.declared.placed.PlacedOrder.{PlacedOrder}
use Rattle.dip_explain_strengths.proofs.lists.order_at.Given as goal

abbrev pub invariant-loop-placed : goal.invariant-loop-placed
invariant-loop-placed l = find (λ (o : PlacedOrder). o.unit.place.prov == l.p) (drop l.placed-index l.orders) ≡ find (λ (o : PlacedOrder). o.unit.place.prov == l.p) l.orders
