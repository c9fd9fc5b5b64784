use Rattle.std.proofs.Common.{◌≡◌, take}
use Rattle.sqlite.specs.Held.{state}
use Rattle.sqlite.specs.declared.error.Error.{Error}
use Rattle.dip_store_tables.specs.Boards.{centre_rows_from}
use Rattle.dip_store_sql.proofs.Parts.{went}
use Rattle.dip_store_sql.specs.Transactions.{Does, always}
use Rattle.dip_store_changes.specs.Boards.{more_centres}
use Rattle.dip_store_changes.proofs.boards.add_owners.Given as goal

abbrev pub invariant-loop-number : goal.invariant-loop-number
invariant-loop-number g l = record {
  same_reference : l.tx.conn.ghost_name ≡ l.fn.tx.conn.ghost_name;
  does : Does (more_centres (centre_rows_from l.map l.game 0 (take l.number l.owners))) always (state g.S.Store l.fn.tx.conn.now) (state g.S.Store l.tx.conn.now) (went (Unit {0}) Error tt);
}
