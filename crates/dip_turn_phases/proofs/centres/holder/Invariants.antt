use Rattle.std.proofs.Common.{◌≡◌, ◌==◌, drop, find}
use Rattle.dip_turn_phases.proofs.centres.holder.Given as goal

abbrev pub invariant-loop-unit : goal.invariant-loop-unit
invariant-loop-unit l = find (λ u. u.place.prov == l.prov) (drop l.unit-index l.units) ≡ find (λ u. u.place.prov == l.prov) l.units
