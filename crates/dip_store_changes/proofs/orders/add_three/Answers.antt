use Rattle.std.proofs.Common.{rules, List, [], ◌∷◌, ap, map}
use Rattle.dip_desk_state.specs.Rows as records
use Rattle.dip_store_tables.specs.Tables.{PendingRow}
use Rattle.dip_store_tables.specs.Writing.{pending_row}
use Rattle.dip_store_sql.proofs.Joining.{does_as, does_fail, does_ok}
use Rattle.dip_store_sql.specs.Keys.{OrdersDiffer}
use Rattle.dip_store_sql.specs.TablesAfter.{more_orders}
use Rattle.dip_store_changes.proofs.RowsMore.{three_rows}
use Rattle.dip_store_changes.proofs.orders.add_three.Goals as goal

pub returns-clause-does : goal.returns-clause-does
returns-clause-does g c =
    let game = c.args.game.now in
    let power = c.args.power.now in
    let are = three_rows _ _ _ _ _ _ (c.order_row-one.ensures game power) (c.order_row-other.ensures game power) (c.order_row-third.ensures game power) in
    does_ok OrdersDiffer tt (does_as c.in_ok-add_three_pending.ensures.does (λ t. ap (λ (ps : List PendingRow). more_orders ps t) are))

pub returns-in_err-add_three_pending-clause-does : goal.returns-in_err-add_three_pending-clause-does
returns-in_err-add_three_pending-clause-does g c =
    let game = c.args.game.now in
    let power = c.args.power.now in
    let are = three_rows _ _ _ _ _ _ (c.order_row-one.ensures game power) (c.order_row-other.ensures game power) (c.order_row-third.ensures game power) in
    let rows = map (pending_row c.args.map.now game power) (records.standings (c.args.orders.0.now ∷ c.args.orders.1.now ∷ c.args.orders.2.now ∷ [])) in
    let broken = does_fail (Unit {0}) (more_orders rows) OrdersDiffer (does_as c.in_err-add_three_pending.ensures.does (λ t. ap (λ (ps : List PendingRow). more_orders ps t) are)) (λ t apart. apart) in
    search (rules, broken)
