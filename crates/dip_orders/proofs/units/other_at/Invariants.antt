use Rattle.std.proofs.Common.{◌≡◌, ◌==◌, ◌&&◌, drop, find}
use Rattle.dip_names.specs.Kinds.{is_kind}
use Rattle.dip_orders.proofs.units.other_at.Given as goal

abbrev pub invariant-loop-unit : goal.invariant-loop-unit
invariant-loop-unit l = find (λ u. is_kind u.kind l.kind && (u.place.prov == l.prov)) (drop l.unit-index l.unit-items) ≡ find (λ u. is_kind u.kind l.kind && (u.place.prov == l.prov)) l.unit-items
