use Rattle.std.proofs.Common.{◌≡◌, ◌++◌, drop}
use Rattle.std.specs.List.{filter_map}
use Rattle.dip_turn_phases.specs.Retreating.{after_retreat}
use Rattle.dip_turn_phases.proofs.retreating.units_after.Given as goal

abbrev pub invariant-loop-dislodged : goal.invariant-loop-dislodged
invariant-loop-dislodged l = l.units.items ++ filter_map (after_retreat l.pending l.board.dislodged) (drop l.dislodged-index l.board.dislodged) ≡ l.board.units ++ filter_map (after_retreat l.pending l.board.dislodged) l.board.dislodged
