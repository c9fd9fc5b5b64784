use Rattle.std.proofs.Common.{◌≡◌, take}
use Rattle.sqlite.specs.Held.{state}
use Rattle.sqlite.specs.declared.error.Error.{Error}
use Rattle.dip_store_sql.specs.Calls.{Writes}
use Rattle.dip_store_sql.proofs.Parts.{went}
use Rattle.dip_store_sql.specs.TablesAfter.{more_ballots}
use Rattle.dip_store_schema.proofs.Refilling.{BallotsAre}
use Rattle.dip_store_schema.proofs.renewing.add_ballots.Given as goal

abbrev pub invariant-loop-ballot : goal.invariant-loop-ballot
invariant-loop-ballot g l = record {
  same_reference : l.tx.conn.ghost_name ≡ l.fn.tx.conn.ghost_name;
  writes : Writes (more_ballots (take l.ballot-index l.ballots)) (state g.S.Store l.fn.tx.conn.now) (state g.S.Store l.tx.conn.now) (went (Unit {0}) Error tt);
  tries : BallotsAre l.ballots (take l.ballot-index l.ballots) (state g.S.Store l.fn.tx.conn.now) (state g.S.Store l.tx.conn.now) (went (Unit {0}) Error tt);
}
