use Rattle.std.proofs.Common.{rules, [], ◌∷◌, ap}
use Rattle.dip_desk_state.specs.Rows as records
use Rattle.dip_store_tables.specs.Tables.{PendingRow}
use Rattle.dip_store_tables.specs.Writing.{pending_row}
use Rattle.dip_store_sql.proofs.Joining.{does_as, does_fail, does_ok}
use Rattle.dip_store_sql.specs.Keys.{OrdersDiffer}
use Rattle.dip_store_sql.specs.TablesAfter.{more_orders}
use Rattle.dip_store_changes.proofs.orders.add_order.Goals as goal

pub returns-clause-does : goal.returns-clause-does
returns-clause-does g c =
    let is = c.order_row-row.ensures c.args.game.now c.args.power.now in
    does_ok OrdersDiffer tt (does_as c.in_ok-add_pending.ensures.does (λ t. ap (λ (p : PendingRow). more_orders (p ∷ []) t) is))

pub returns-in_err-add_pending-clause-does : goal.returns-in_err-add_pending-clause-does
returns-in_err-add_pending-clause-does g c =
    let is = c.order_row-row.ensures c.args.game.now c.args.power.now in
    let row = pending_row c.args.map.now c.args.game.now c.args.power.now (records.standing c.args.order.now) in
    let broken = does_fail (Unit {0}) (more_orders (row ∷ [])) OrdersDiffer (does_as c.in_err-add_pending.ensures.does (λ t. ap (λ (p : PendingRow). more_orders (p ∷ []) t) is)) (λ t apart. apart) in
    search (rules, broken)
