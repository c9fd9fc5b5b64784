use Rattle.std.proofs.Common.{◌≡◌, map, take}
use Rattle.sqlite.specs.Held.{state}
use Rattle.sqlite.specs.declared.error.Error.{Error}
use Rattle.dip_desk_state.specs.Rows as records
use Rattle.dip_store_tables.specs.Writing.{pending_row}
use Rattle.dip_store_sql.proofs.Parts.{went}
use Rattle.dip_store_sql.specs.Transactions.{Does, always}
use Rattle.dip_store_sql.specs.TablesAfter.{more_orders}
use Rattle.dip_store_changes.proofs.orders.add_each.Given as goal

abbrev pub invariant-loop-order : goal.invariant-loop-order
invariant-loop-order g l = record {
  same_reference : l.tx.conn.ghost_name ≡ l.fn.tx.conn.ghost_name;
  does : Does (more_orders (map (pending_row l.map l.game l.power) (records.standings (take l.order-index l.orders)))) always (state g.S.Store l.fn.tx.conn.now) (state g.S.Store l.tx.conn.now) (went (Unit {0}) Error tt);
}
