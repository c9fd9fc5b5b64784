use Rattle.std.proofs.Common.{◌≡◌, ◌++◌, drop}
use Rattle.dip_turn_phases.specs.Centres.{owners_after}
use Rattle.dip_turn_phases.proofs.centres.owners_after.Given as goal

abbrev pub invariant-loop-index : goal.invariant-loop-index
invariant-loop-index l = l.owners.items ++ owners_after l.map l.board.units l.index (drop l.index l.board.owners) ≡ owners_after l.map l.board.units 0 l.board.owners
