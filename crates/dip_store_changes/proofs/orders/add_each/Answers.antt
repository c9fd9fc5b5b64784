use Rattle.std.proofs.Common.{arith, rules, map, ◌∙◌}
use Rattle.dip_desk_state.specs.Rows as records
use Rattle.dip_store_tables.specs.Writing.{pending_row}
use Rattle.dip_store_sql.proofs.Joining.{does_and, does_fail, does_more}
use Rattle.dip_store_sql.specs.Keys.{OrdersDiffer, same_order}
use Rattle.dip_store_sql.specs.TablesAfter.{more_orders}
use Rattle.dip_store_sql.proofs.Leading.{both_apart}
use Rattle.dip_store_changes.proofs.RowsMore.{orders_more}
use Rattle.dip_store_sql.proofs.Parts.{taken_both}
use Rattle.dip_store_changes.proofs.orders.add_each.Goals as goal

pub loop-order-preserved : goal.loop-order-preserved
loop-order-preserved g c =
    let d = c.order-item.result in
    let row = pending_row c.args.map.now c.args.game.now c.args.power.now in
    let step = rw c.order-item.is at c.in_ok-add_order.ensures.does in
    record {
      same_reference = c.in_ok-add_order.ensures.same_reference ∙ c.loop-order.invariant.same_reference;
      does = does_more _ tt c.loop-order.invariant.does step (orders_more _ _ _ (taken_both row (λ o. records.standing o) c.args.orders.now c.loop-order.order-index d (omega arith)));
    }

pub returns-in_err-add_order-clause-does : goal.returns-in_err-add_order-clause-does
returns-in_err-add_order-clause-does g c =
    let d = c.order-item.result in
    let row = pending_row c.args.map.now c.args.game.now c.args.power.now in
    let step = rw c.order-item.is at c.in_err-add_order.ensures.does in
    let broken = does_fail (Unit {0}) (more_orders (map row (records.standings c.args.orders.now))) OrdersDiffer (does_and c.loop-order.invariant.does step) (λ t apart. both_apart same_order row (λ o. records.standing o) c.args.orders.now c.loop-order.order-index d (omega arith) t.pending apart) in
    search (rules, broken)
