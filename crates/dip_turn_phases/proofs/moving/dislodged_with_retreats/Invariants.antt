use Rattle.std.proofs.Common.{◌≡◌, ◌++◌, drop, filter}
use Rattle.dip_turn_phases.specs.Moving.{may_go}
use Rattle.dip_turn_phases.proofs.moving.dislodged_with_retreats.Given as goal

abbrev pub invariant-loop-dislodged : goal.invariant-loop-dislodged
invariant-loop-dislodged l = l.spared.items ++ filter (may_go l.map l.board) (drop l.dislodged-index l.board.dislodged) ≡ filter (may_go l.map l.board) l.board.dislodged
