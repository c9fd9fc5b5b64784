use Rattle.std.proofs.Common.{arith, rules, map, ◌∙◌}
use Rattle.dip_desk_state.specs.ChangeRows as machine
use Rattle.dip_store_tables.specs.Coding.{same_seat}
use Rattle.dip_store_tables.specs.Writing.{seat_row}
use Rattle.dip_store_sql.proofs.Joining.{does_and, does_fail, does_more}
use Rattle.dip_store_sql.specs.Keys.{SeatsDiffer}
use Rattle.dip_store_changes.specs.Seats.{more_seats}
use Rattle.dip_store_sql.proofs.Leading.{both_apart}
use Rattle.dip_store_changes.proofs.SeatsMore.{seats_more}
use Rattle.dip_store_sql.proofs.Parts.{taken_both}
use Rattle.dip_store_changes.proofs.seats.add_seats.Goals as goal

pub loop-seat-preserved : goal.loop-seat-preserved
loop-seat-preserved g c =
    let d = c.seat-item.result in
    let row = seat_row c.args.map.now c.args.game.now in
    let step = rw c.seat-item.is at c.in_ok-add_new_seat.ensures.does in
    record {
      same_reference = c.in_ok-add_new_seat.ensures.same_reference ∙ c.loop-seat.invariant.same_reference;
      does = does_more _ tt c.loop-seat.invariant.does step (seats_more _ _ _ (taken_both row machine.new_seat c.args.seats.now c.loop-seat.seat-index d (omega arith)));
    }

pub returns-in_err-add_new_seat-clause-does : goal.returns-in_err-add_new_seat-clause-does
returns-in_err-add_new_seat-clause-does g c =
    let d = c.seat-item.result in
    let row = seat_row c.args.map.now c.args.game.now in
    let step = rw c.seat-item.is at c.in_err-add_new_seat.ensures.does in
    let broken = does_fail (Unit {0}) (more_seats (map row (map machine.new_seat c.args.seats.now))) SeatsDiffer (does_and c.loop-seat.invariant.does step) (λ t apart. both_apart same_seat row machine.new_seat c.args.seats.now c.loop-seat.seat-index d (omega arith) t.seats apart) in
    search (rules, broken)
