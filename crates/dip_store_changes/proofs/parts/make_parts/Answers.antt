use Rattle.std.proofs.Common.{rules, List, ℕ, ap, subst, sym}
use Rattle.dip_desk_state.specs.ChangeRows as machine
use Rattle.dip_store_tables.specs.Tables.{Tables}
use Rattle.dip_store_counts.specs.Noting.{noting_row}
use Rattle.dip_store_sql.specs.Keys.{AreKeyed}
use Rattle.dip_store_sql.proofs.Joining.{does_and, does_as, does_fail}
use Rattle.dip_store_changes.specs.Parts.{changing_row, ordering_over, reaching_all}
use Rattle.dip_store_changes.proofs.OrdersKeyed.{orders_keyed}
use Rattle.dip_store_changes.proofs.parts.make_parts.Goals as goal

pub returns-clause-does : goal.returns-clause-does
returns-clause-does g c =
    let m = c.args.map.now in
    let it = machine.change c.args.change.now in
    let noted : Tables → Tables = noting_row c.args.row m it.author it.game it.kept in
    let all : List ℕ → Tables → Tables = λ game t. reaching_all c.args.readers.now m game it.effect (ordering_over c.args.unordered m it.author game it.effect (noted t)) in
    does_as (does_and (does_and c.in_ok-note_author.ensures.does c.in_ok-order.ensures.does) c.reach.ensures.does) (λ t. ap (λ game. all game t) c.as_str-game.ensures.value)

pub returns-in_err-order-clause-does : goal.returns-in_err-order-clause-does
returns-in_err-order-clause-does g c =
    let m = c.args.map.now in
    let it = machine.change c.args.change.now in
    let game = c.as_str-game.result.now in
    let rs = c.args.readers.now in
    let noted : Tables → Tables = noting_row c.args.row m it.author it.game it.kept in
    let all : List ℕ → Tables → Tables = λ game t. reaching_all rs m game it.effect (ordering_over c.args.unordered m it.author game it.effect (noted t)) in
    let broken = does_fail (Unit {0}) (changing_row c.args.row c.args.unordered rs m it) AreKeyed (does_and c.in_ok-note_author.ensures.does c.in_err-order.ensures.does)
    (λ t keyed. orders_keyed c.args.unordered rs m it.author game it.effect (noted t) (subst (λ (name : List ℕ). AreKeyed (all name t)) (sym c.as_str-game.ensures.value) keyed)) in
    search (rules, broken)
