use Rattle.std.proofs.Common.{◌≡◌, map, take}
use Rattle.sqlite.specs.Held.{state}
use Rattle.sqlite.specs.declared.error.Error.{Error}
use Rattle.dip_desk_state.specs.ChangeRows as machine
use Rattle.dip_store_tables.specs.Writing.{seat_row}
use Rattle.dip_store_sql.proofs.Parts.{went}
use Rattle.dip_store_sql.specs.Transactions.{Does, always}
use Rattle.dip_store_changes.specs.Seats.{more_seats}
use Rattle.dip_store_changes.proofs.seats.add_seats.Given as goal

abbrev pub invariant-loop-seat : goal.invariant-loop-seat
invariant-loop-seat g l = record {
  same_reference : l.tx.conn.ghost_name ≡ l.fn.tx.conn.ghost_name;
  does : Does (more_seats (map (seat_row l.map l.game) (map machine.new_seat (take l.seat-index l.seats)))) always (state g.S.Store l.fn.tx.conn.now) (state g.S.Store l.tx.conn.now) (went (Unit {0}) Error tt);
}
