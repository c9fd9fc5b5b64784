use Rattle.std.proofs.Common.{◌≡◌, ◌==◌, ◌&&◌, drop, find}
use Rattle.dip_orders.proofs.units.dislodged_at.Given as goal

abbrev pub invariant-loop-dislodged : goal.invariant-loop-dislodged
invariant-loop-dislodged l =
    find (λ d. (d.unit.power == l.power) && (d.unit.place.prov == l.prov)) (drop l.dislodged-index l.dislodged-items)
    ≡ find (λ d. (d.unit.power == l.power) && (d.unit.place.prov == l.prov)) l.dislodged-items
