use Rattle.std.proofs.Common.{rules, refl, sym, ap, ◌∙◌, ◌≡◌, ◌-◌, List, [], ◌∷◌, ◌++◌, append_assoc, drop, length, map, take}
use Rattle.sqlite.specs.Held.{state}
use Rattle.dip_desk_state.specs.Rows as records
use Rattle.dip_desk_state.specs.declared.records.Standing.{Standing}
use Rattle.dip_store_tables.specs.Writing.{pending_row}
use Rattle.dip_store_sql.proofs.Joining.{does_and, does_as, does_fail, does_more}
use Rattle.dip_store_sql.specs.Keys.{OrdersDiffer, same_order}
use Rattle.dip_store_sql.specs.TablesAfter.{more_orders}
use Rattle.dip_store_changes.proofs.RowsMore.{no_orders_put, orders_more, three_front}
use Rattle.dip_store_sql.proofs.Leading.{both_append, some_apart}
use Rattle.dip_store_changes.proofs.orders.add_orders.Goals as goal

pub loop-rest-init : goal.loop-rest-init
loop-rest-init g c = record { done = []; orders = refl; same_reference = refl; does = no_orders_put (state g.S.Store c.args.tx.now.conn.now) }

pub loop-rest-preserved : goal.loop-rest-preserved
loop-rest-preserved g c =
    let row = pending_row c.args.map.now c.args.game.now c.args.power.now in
    let left = c.loop-rest.rest.now in
    let three : List Standing = c.one-item.result ∷ c.other-item.result ∷ c.third-item.result ∷ [] in
    let behind = take (length left - 3) (drop 3 left) in
    let done = c.loop-rest.invariant.done in
    let front : left ≡ three ++ behind = three_front left _ _ _ c.in-len3-up.len_at_least c.one-item.is c.other-item.is c.third-item.is in
    record {
      done = done ++ three;
      orders = c.loop-rest.invariant.orders ∙ ap (λ (xs : List Standing). done ++ xs) front ∙ sym (append_assoc done three behind);
      same_reference = c.in_ok-add_three.ensures.same_reference ∙ c.loop-rest.invariant.same_reference;
      does = does_more _ tt c.loop-rest.invariant.does c.in_ok-add_three.ensures.does (orders_more _ _ _ (both_append row (λ o. records.standing o) done three));
    }

pub returns-in_err-add_three-clause-does : goal.returns-in_err-add_three-clause-does
returns-in_err-add_three-clause-does g c =
    let row = pending_row c.args.map.now c.args.game.now c.args.power.now in
    let left = c.loop-rest.rest.now in
    let three : List Standing = c.one-item.result ∷ c.other-item.result ∷ c.third-item.result ∷ [] in
    let behind = take (length left - 3) (drop 3 left) in
    let done = c.loop-rest.invariant.done in
    let front : left ≡ three ++ behind = three_front left _ _ _ c.in-len3-up.len_at_least c.one-item.is c.other-item.is c.third-item.is in
    let parts : c.args.orders.now ≡ done ++ (three ++ behind) = c.loop-rest.invariant.orders ∙ ap (λ (xs : List Standing). done ++ xs) front in
    let broken = does_fail (Unit {0}) (more_orders (map row (records.standings c.args.orders.now))) OrdersDiffer (does_and c.loop-rest.invariant.does c.in_err-add_three.ensures.does)
    (λ t apart. some_apart same_order row (λ o. records.standing o) done three behind c.args.orders.now parts t.pending apart) in
    search (rules, broken)

pub returns-clause-does : goal.returns-clause-does
returns-clause-does g c =
    let row = pending_row c.args.map.now c.args.game.now c.args.power.now in
    let left = c.loop-rest.rest.now in
    let done = c.loop-rest.invariant.done in
    let rows = ap (λ (xs : List Standing). map row (records.standings xs)) c.loop-rest.invariant.orders ∙ both_append row (λ o. records.standing o) done left in
    does_as (does_and c.loop-rest.invariant.does c.add_each.ensures.does) (orders_more _ _ _ rows)
