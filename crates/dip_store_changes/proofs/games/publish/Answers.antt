use Rattle.std.proofs.Common.{◌≡◌, ap, rules, sym, subst}
use Rattle.dip_map.specs.Boards.{Position}
use Rattle.dip_desk_state.specs.Rows as records
use Rattle.dip_store_tables.specs.Changing.{publishing}
use Rattle.dip_store_sql.specs.Keys.{AreKeyed}
use Rattle.dip_store_sql.proofs.Joining.{does_and, does_as, does_fail, does_ok}
use Rattle.dip_store_changes.specs.Boards.{with_board}
use Rattle.dip_store_changes.specs.Seats.{choosing}
use Rattle.dip_store_changes.proofs.Gaming.{published}
use Rattle.dip_store_changes.proofs.games.publish.Goals as goal

pub returns-clause-does : goal.returns-clause-does
returns-clause-does g c =
    let lies : c.deref.result.now ≡ c.args.public.now.board.value = search rules in
    let board = does_as c.in_ok-put_board.ensures.does (λ t. ap (λ (b : Position). with_board c.args.map.now c.args.game.now b t) lies) in
    let lies-2 : c.deref-2.result.now ≡ c.args.public.now.board.value = search rules in
    let choice = does_as c.in_ok-put_choice.ensures.does (λ t. ap (λ (b : Position). choosing c.args.game.now b.intent t) lies-2) in
    does_ok _ tt (does_as (does_and (does_and (does_and (does_and c.in_ok-renew_row.ensures.does board) choice) c.in_ok-end_phase.ensures.does) c.in_ok-add_paper.ensures.does)
    (published c.args.map.now c.args.game.now c.args.paper.now (records.public c.args.public.now) c.args.played))

pub returns-in_err-add_paper-clause-does : goal.returns-in_err-add_paper-clause-does
returns-in_err-add_paper-clause-does g c =
    let lies : c.deref.result.now ≡ c.args.public.now.board.value = search rules in
    let board = does_as c.in_ok-put_board.ensures.does (λ t. ap (λ (b : Position). with_board c.args.map.now c.args.game.now b t) lies) in
    let lies-2 : c.deref-2.result.now ≡ c.args.public.now.board.value = search rules in
    let choice = does_as c.in_ok-put_choice.ensures.does (λ t. ap (λ (b : Position). choosing c.args.game.now b.intent t) lies-2) in
    let same = published c.args.map.now c.args.game.now c.args.paper.now (records.public c.args.public.now) c.args.played in
    let four = does_and (does_and (does_and c.in_ok-renew_row.ensures.does board) choice) c.in_ok-end_phase.ensures.does in
    let broken = does_fail (Unit {0}) (publishing c.args.map.now c.args.game.now (records.public c.args.public.now) c.args.paper.now c.args.played) AreKeyed
    (does_and four c.in_err-add_paper.ensures.does) (λ t keyed. (subst AreKeyed (sym (same t)) keyed).papers) in
    search (rules, broken)
