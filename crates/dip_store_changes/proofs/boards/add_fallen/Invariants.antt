use Rattle.std.proofs.Common.{◌≡◌, map, take}
use Rattle.sqlite.specs.Held.{state}
use Rattle.sqlite.specs.declared.error.Error.{Error}
use Rattle.dip_store_tables.specs.Boards.{dislodged_row}
use Rattle.dip_store_sql.proofs.Parts.{went}
use Rattle.dip_store_sql.specs.Transactions.{Does, always}
use Rattle.dip_store_changes.specs.Boards.{more_units}
use Rattle.dip_store_changes.proofs.boards.add_fallen.Given as goal

abbrev pub invariant-loop-unit : goal.invariant-loop-unit
invariant-loop-unit g l = record {
  same_reference : l.tx.conn.ghost_name ≡ l.fn.tx.conn.ghost_name;
  does : Does (more_units (map (dislodged_row l.map l.game) (take l.unit-index l.units))) always (state g.S.Store l.fn.tx.conn.now) (state g.S.Store l.tx.conn.now) (went (Unit {0}) Error tt);
}
