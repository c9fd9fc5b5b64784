use Rattle.std.proofs.Common.{◌≡◌, drop}
use Rattle.dip_map.specs.Boards.{are_ascending}
use Rattle.dip_check_papers.proofs.drawing.are_ascending.Given as goal

abbrev pub invariant-loop-number : goal.invariant-loop-number
invariant-loop-number l = are_ascending (drop l.number l.powers) ≡ are_ascending l.powers
