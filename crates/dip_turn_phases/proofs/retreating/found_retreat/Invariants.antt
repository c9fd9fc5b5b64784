use Rattle.std.proofs.Common.{◌≡◌, drop}
use Rattle.dip_turn_phases.specs.Retreating.{found_retreat}
use Rattle.dip_turn_phases.proofs.retreating.found_retreat.Given as goal

abbrev pub invariant-loop-placed : goal.invariant-loop-placed
invariant-loop-placed l = found_retreat (drop l.placed-index l.pending) l.dislodged ≡ found_retreat l.pending l.dislodged
