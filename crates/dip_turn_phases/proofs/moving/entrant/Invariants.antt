use Rattle.std.proofs.Common.{◌≡◌, drop, find}
use Rattle.dip_decide_rules.specs.Results.{values_in}
use Rattle.dip_turn_phases.specs.Moving.{enters}
use Rattle.dip_turn_phases.proofs.moving.entrant.Given as goal

abbrev pub invariant-loop-placed : goal.invariant-loop-placed
invariant-loop-placed l = find (enters (values_in l.resolution) l.prov) (drop l.placed-index l.orders) ≡ find (enters (values_in l.resolution) l.prov) l.orders
