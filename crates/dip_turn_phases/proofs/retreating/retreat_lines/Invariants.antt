use Rattle.std.proofs.Common.{◌≡◌, ◌++◌, drop, map}
use Rattle.dip_turn_phases.specs.Retreating.{retreat_line}
use Rattle.dip_turn_phases.proofs.retreating.retreat_lines.Given as goal

abbrev pub invariant-loop-dislodged : goal.invariant-loop-dislodged
invariant-loop-dislodged l = l.lines.items ++ map (retreat_line l.board l.pending) (drop l.dislodged-index l.board.dislodged) ≡ map (retreat_line l.board l.pending) l.board.dislodged
