use Rattle.std.proofs.Common.{◌≡◌, ◌≤◌, map, take}
use Rattle.dip_store_looks.specs.Asked.{SelectsOn}
use Rattle.dip_store_looks.specs.Shown.{listed_own}
use Rattle.dip_desk_state.specs.Rows as rows
use Rattle.dip_store_sql.specs.Calls.{IsKept, does_show, is_honest, tables_in}
use Rattle.dip_store_sql.proofs.Parts.{went}
use Rattle.sqlite.specs.declared.error.Error.{Error}
use Rattle.sqlite.specs.Held.{state}
use Rattle.dip_store_looks.proofs.whole.owns_of.Given as goal

abbrev pub invariant-loop-seat : goal.invariant-loop-seat
invariant-loop-seat g l = record {
  value : IsKept g.S.Store l.fn.conn → is_honest g.S.Store l.conn → map rows.own l.owns.items ≡ map (listed_own l.map (tables_in g.S.Store l.fn.conn) l.game) (take l.seat-index l.seats);
  same : IsKept g.S.Store l.fn.conn → is_honest g.S.Store l.conn → IsKept g.S.Store l.conn × (tables_in g.S.Store l.conn ≡ tables_in g.S.Store l.fn.conn);
  shows : IsKept g.S.Store l.fn.conn → does_show g.S.Store l.fn.conn → is_honest g.S.Store l.conn → does_show g.S.Store l.conn;
  selects : SelectsOn g.S.Store l.fn.conn l.conn (went (Unit {0}) Error tt);
  counts : (state g.S.Store l.fn.conn).faults ≤ (state g.S.Store l.conn).faults;
}
