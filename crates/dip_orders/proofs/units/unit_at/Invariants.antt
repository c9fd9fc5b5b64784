use Rattle.std.proofs.Common.{◌≡◌, ◌==◌, ◌&&◌, drop, find}
use Rattle.dip_orders.proofs.units.unit_at.Given as goal

abbrev pub invariant-loop-unit : goal.invariant-loop-unit
invariant-loop-unit l = find (λ u. (u.power == l.power) && (u.place.prov == l.prov)) (drop l.unit-index l.unit-items) ≡ find (λ u. (u.power == l.power) && (u.place.prov == l.prov)) l.unit-items
