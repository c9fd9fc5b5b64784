use Rattle.std.proofs.Common.{◌≡◌, ◌++◌}
use Rattle.std.specs.Prelude.{filter}
use Rattle.dip_desk_games.specs.Drawing as d
use Rattle.dip_desk_games.proofs.drawing.survivors.Given as goal

abbrev pub invariant-loop-power : goal.invariant-loop-power
invariant-loop-power l = l.found.items ++ filter (d.survives l.map l.board) l.power-iterator ≡ d.survivors l.map l.board
