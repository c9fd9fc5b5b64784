use Rattle.std.proofs.Common.{◌≡◌, drop}
use Rattle.dip_map.specs.Boards.{are_ascending}
use Rattle.dip_map.proofs.checks.are_ascending.Given as goal

abbrev pub invariant-loop-number : goal.invariant-loop-number
invariant-loop-number l = are_ascending (drop l.number l.provinces) ≡ are_ascending l.provinces
