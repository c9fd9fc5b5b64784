use Rattle.std.proofs.Common.{◌⊎◌, IsTrue, Bool, true, ◌<◌, take}
use Rattle.std.specs.List.{AllByRecursion}
use Rattle.sqlite.specs.Held.{state}
use Rattle.sqlite.specs.State.{HasCleanDisk}
use Rattle.sqlite.specs.declared.error.Error.{Error}
use Rattle.dip_store_schema.specs.Alone.{LeavesAlone}
use Rattle.dip_store_schema.specs.Known.{IsKnown}
use Rattle.dip_store_sql.proofs.Parts.{went}
use Rattle.dip_store_schema.proofs.known.knows_each.Given as goal

abbrev pub invariant-loop-text : goal.invariant-loop-text
invariant-loop-text g l = record {
  alone : LeavesAlone g.S.Store l.fn.conn l.conn (went Bool Error true);
  open_so : HasCleanDisk (state g.S.Store l.conn) → IsTrue (state g.S.Store l.fn.conn).is_open ⊎ (0 < l.text-index) → IsTrue (state g.S.Store l.conn).is_open;
  known : HasCleanDisk (state g.S.Store l.conn) → AllByRecursion (λ t. IsKnown l.fn.conn.schema t.now) (take l.text-index l.texts);
}
