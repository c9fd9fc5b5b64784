use Rattle.std.proofs.Common.{◌≤◌, map, take}
use Rattle.dip_map.specs.Boards.{IsOf}
use Rattle.dip_desk_state.specs.Rows as rows
use Rattle.dip_check.proofs.Chains.{Stands}
use Rattle.dip_check.proofs.games.check_from.Given as goal

abbrev pub invariant-loop-number : goal.invariant-loop-number
invariant-loop-number l =
    record {
      of : IsOf l.map l.public.board.value;
      short : l.public.period ≤ 999999;
      stands : Stands l.map (rows.public l.fn.first) (take l.number (map (λ t. t.now) l.papers)) (rows.public l.public);
    }
