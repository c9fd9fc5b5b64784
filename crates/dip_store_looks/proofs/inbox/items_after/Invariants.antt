use Rattle.std.proofs.Common.{◌≡◌, ◌≤◌, ℕ, drop, take}
use Rattle.dip_store_looks.specs.Asked.{SelectsOn}
use Rattle.dip_desk_state.specs.Rows as rows
use Rattle.dip_store_sql.specs.Calls.{IsKept, does_show, is_honest, tables_in}
use Rattle.dip_store_sql.proofs.Parts.{went}
use Rattle.dip_store_tables.specs.Counting.{counted, item_numbers}
use Rattle.dip_store_tables.specs.Reading.{items_of}
use Rattle.sqlite.specs.declared.error.Error.{Error}
use Rattle.sqlite.specs.Held.{state}
use Rattle.dip_store_looks.proofs.inbox.items_after.Given as goal

abbrev pub invariant-loop-index : goal.invariant-loop-index
invariant-loop-index g l = record {
  value : IsKept g.S.Store l.fn.conn → is_honest g.S.Store l.conn → (n : ℕ) → item_numbers (tables_in g.S.Store l.fn.conn).boxes l.game l.power ≡ counted n
      → rows.items l.items.items ≡ take l.index (drop l.skipped (items_of (tables_in g.S.Store l.fn.conn).boxes l.game l.power));
  same : IsKept g.S.Store l.fn.conn → is_honest g.S.Store l.conn → IsKept g.S.Store l.conn × (tables_in g.S.Store l.conn ≡ tables_in g.S.Store l.fn.conn);
  shows : IsKept g.S.Store l.fn.conn → does_show g.S.Store l.fn.conn → is_honest g.S.Store l.conn → does_show g.S.Store l.conn;
  selects : SelectsOn g.S.Store l.fn.conn l.conn (went (Unit {0}) Error tt);
  counts : (state g.S.Store l.fn.conn).faults ≤ (state g.S.Store l.conn).faults;
}
