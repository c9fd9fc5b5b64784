use Rattle.std.proofs.Common.{◌≡◌}
use Rattle.std.specs.List.{list_any}
use Rattle.dip_map.specs.Boards.{owns}
use Rattle.dip_desk_games.specs.Drawing as d
use Rattle.dip_desk_games.proofs.drawing.has_centre.Given as goal

abbrev pub invariant-loop-prov : goal.invariant-loop-prov
invariant-loop-prov l = list_any (λ p. owns l.board l.power p) l.prov-iterator ≡ d.has_centre l.map l.board l.power
