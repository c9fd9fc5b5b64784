use Rattle.std.proofs.Common.{◌≡◌, map, take}
use Rattle.sqlite.specs.Held.{state}
use Rattle.sqlite.specs.declared.error.Error.{Error}
use Rattle.dip_desk_state.specs.Rows.{lines}
use Rattle.dip_store_tables.specs.Renewing.{old_choice}
use Rattle.dip_store_sql.specs.Calls.{Writes}
use Rattle.dip_store_sql.proofs.Parts.{went}
use Rattle.dip_store_schema.specs.Renewing.{more_choices}
use Rattle.dip_store_schema.proofs.Refilling.{ChoicesAre}
use Rattle.dip_store_schema.proofs.renewing.add_choices.Given as goal

abbrev pub invariant-loop-game : goal.invariant-loop-game
invariant-loop-game g l = record {
  same_reference : l.tx.conn.ghost_name ≡ l.fn.tx.conn.ghost_name;
  writes : Writes (more_choices (map old_choice (lines (take l.game-index l.games)))) (state g.S.Store l.fn.tx.conn.now) (state g.S.Store l.tx.conn.now) (went (Unit {0}) Error tt);
  tries : ChoicesAre (map old_choice (lines l.games)) (map old_choice (lines (take l.game-index l.games))) (state g.S.Store l.fn.tx.conn.now) (state g.S.Store l.tx.conn.now) (went (Unit {0}) Error tt);
}
