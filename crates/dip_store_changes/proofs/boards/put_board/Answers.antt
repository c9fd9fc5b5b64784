use Rattle.std.proofs.Common.{rules}
use Rattle.dip_store_sql.proofs.Joining.{does_and, does_as, does_fail}
use Rattle.dip_store_changes.specs.Boards.{BoardsDiffer, with_board}
use Rattle.dip_store_changes.proofs.RowsMore.{board_put}
use Rattle.dip_store_changes.proofs.Placing.{fallen_apart, standing_apart}
use Rattle.dip_store_changes.proofs.boards.put_board.Goals as goal

pub returns-clause-does : goal.returns-clause-does
returns-clause-does g c =
    let all = does_as (does_and (does_and (does_and (does_and c.in_ok-drop_units.ensures.does c.in_ok-add_standings.ensures.does) c.in_ok-add_fallen.ensures.does) c.in_ok-drop_centres.ensures.does) c.add_owners.ensures.does)
    (board_put c.args.map.now c.args.game.now c.args.board.now _ _ _ c.units.ensures c.dislodged.ensures c.owners.ensures) in
    record { writes = all.writes; ready = all.ready; fails = λ clean ready apart. all.fails clean ready apart.1; blames = all.blames }

pub returns-in_err-add_standings-clause-does : goal.returns-in_err-add_standings-clause-does
returns-in_err-add_standings-clause-does g c =
    let m = c.args.map.now in
    let name = c.args.game.now in
    let b = c.args.board.now in
    let broken = does_fail (Unit {0}) (with_board m name b) BoardsDiffer (does_and c.in_ok-drop_units.ensures.does c.in_err-add_standings.ensures.does)
    (λ t apart. standing_apart m name b t apart _ c.units.ensures) in
    search (rules, broken)

pub returns-in_err-add_fallen-clause-does : goal.returns-in_err-add_fallen-clause-does
returns-in_err-add_fallen-clause-does g c =
    let m = c.args.map.now in
    let name = c.args.game.now in
    let b = c.args.board.now in
    let broken = does_fail (Unit {0}) (with_board m name b) BoardsDiffer (does_and (does_and c.in_ok-drop_units.ensures.does c.in_ok-add_standings.ensures.does) c.in_err-add_fallen.ensures.does)
    (λ t apart. fallen_apart m name b t apart _ _ c.units.ensures c.dislodged.ensures) in
    search (rules, broken)
