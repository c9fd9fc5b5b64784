use Rattle.std.proofs.Common.{◌≡◌, ℕ, ◌<◌, get_or, false}
use Rattle.dip_map.specs.Boards.{is_held}
use Rattle.dip_map.proofs.boards.Board.are_empty.Given as goal

abbrev pub invariant-loop-province : goal.invariant-loop-province
invariant-loop-province l = (k d : ℕ) → k < l.province-index → is_held l.self (get_or l.provinces k d) ≡ false
