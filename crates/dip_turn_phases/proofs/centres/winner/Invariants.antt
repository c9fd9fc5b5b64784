use Rattle.std.proofs.Common.{◌≡◌, find}
use Rattle.dip_map.specs.Charts.{powers}
use Rattle.dip_turn_phases.specs.Centres.{has_won}
use Rattle.dip_turn_phases.proofs.centres.winner.Given as goal

abbrev pub invariant-loop-power : goal.invariant-loop-power
invariant-loop-power l = find (has_won l.map l.board) l.power-iterator ≡ find (has_won l.map l.board) (powers l.map)
