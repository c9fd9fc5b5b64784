use Rattle.std.proofs.Common.{◌≡◌, ap, map, rules, sym, subst}
use Rattle.dip_map.specs.Boards.{Position}
use Rattle.dip_desk_state.specs.ChangeRows as machine
use Rattle.dip_desk_state.specs.Rows as records
use Rattle.dip_store_tables.specs.Changing.{opening}
use Rattle.dip_store_sql.specs.Keys.{AreKeyed}
use Rattle.dip_store_sql.proofs.Joining.{does_and, does_as, does_fail, does_ok}
use Rattle.dip_store_changes.specs.Boards.{with_board}
use Rattle.dip_store_changes.specs.Seats.{with_votes}
use Rattle.dip_store_changes.proofs.Gaming.{opened}
use Rattle.dip_store_changes.proofs.games.open_game.Goals as goal

pub returns-clause-does : goal.returns-clause-does
returns-clause-does g c =
    let p = records.public c.args.public.now in
    let seats = map machine.new_seat c.args.seats.now in
    let lies : c.deref.result.now ≡ c.args.public.now.board.value = search rules in
    let board = does_as c.in_ok-put_board.ensures.does (λ t. ap (λ (b : Position). with_board c.args.map.now c.as_str-game.result.now b t) lies) in
    let same = opened c.args.map.now p c.args.paper.now seats c.as_str-game.result.now c.as_str-game.ensures.value in
    let five = does_and (does_and (does_and (does_and c.in_ok-clear.ensures.does c.in_ok-open_row.ensures.does) c.in_ok-add_seats.ensures.does) board) c.in_ok-add_paper.ensures.does in
    let lies-2 : c.deref-2.result.now ≡ c.args.public.now.board.value = search rules in
    let votes = does_as c.in_ok-open_votes.ensures.does (λ t. ap (λ (b : Position). with_votes c.args.map.now c.as_str-game.result.now seats b.intent t) lies-2) in
    does_ok _ tt (does_as (does_and five votes) same)

pub returns-in_err-add_paper-clause-does : goal.returns-in_err-add_paper-clause-does
returns-in_err-add_paper-clause-does g c =
    let p = records.public c.args.public.now in
    let seats = map machine.new_seat c.args.seats.now in
    let lies : c.deref.result.now ≡ c.args.public.now.board.value = search rules in
    let board = does_as c.in_ok-put_board.ensures.does (λ t. ap (λ (b : Position). with_board c.args.map.now c.as_str-game.result.now b t) lies) in
    let same = opened c.args.map.now p c.args.paper.now seats c.as_str-game.result.now c.as_str-game.ensures.value in
    let four = does_and (does_and (does_and c.in_ok-clear.ensures.does c.in_ok-open_row.ensures.does) c.in_ok-add_seats.ensures.does) board in
    let broken = does_fail (Unit {0}) (opening c.args.map.now p c.args.paper.now seats) AreKeyed (does_and four c.in_err-add_paper.ensures.does)
    (λ t keyed. (subst AreKeyed (sym (same t)) keyed).papers) in
    search (rules, broken)

pub returns-in_err-open_votes-clause-does : goal.returns-in_err-open_votes-clause-does
returns-in_err-open_votes-clause-does g c =
    let p = records.public c.args.public.now in
    let seats = map machine.new_seat c.args.seats.now in
    let lies : c.deref.result.now ≡ c.args.public.now.board.value = search rules in
    let board = does_as c.in_ok-put_board.ensures.does (λ t. ap (λ (b : Position). with_board c.args.map.now c.as_str-game.result.now b t) lies) in
    let same = opened c.args.map.now p c.args.paper.now seats c.as_str-game.result.now c.as_str-game.ensures.value in
    let five = does_and (does_and (does_and (does_and c.in_ok-clear.ensures.does c.in_ok-open_row.ensures.does) c.in_ok-add_seats.ensures.does) board) c.in_ok-add_paper.ensures.does in
    let lies-2 : c.deref-2.result.now ≡ c.args.public.now.board.value = search rules in
    let votes = does_as c.in_err-open_votes.ensures.does (λ t. ap (λ (b : Position). with_votes c.args.map.now c.as_str-game.result.now seats b.intent t) lies-2) in
    let broken = does_fail (Unit {0}) (opening c.args.map.now p c.args.paper.now seats) AreKeyed (does_and five votes)
    (λ t keyed. let so = subst AreKeyed (sym (same t)) keyed in (so.ballots, so.choices)) in
    search (rules, broken)
