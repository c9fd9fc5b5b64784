use Rattle.std.proofs.Common.{◌≡◌, map}
use Rattle.dip_letters.specs.Views.{seats_in}
use Rattle.dip_desk_machine.specs.MasterCommands as commands
use Rattle.dip_desk_state.specs.ChangeRows as desk_rows
use Rattle.dip_desk_machine.proofs.SeatLemmas.{with_front}
use Rattle.dip_desk_machine.proofs.creating.new_seats.Given as goal

abbrev pub invariant-loop-seat : goal.invariant-loop-seat
invariant-loop-seat l =
    (goal.iterator-loop-seat).can_next l.seat-iterator × (goal.iterator-loop-seat).is_finite l.seat-iterator
    × (with_front (map desk_rows.new_seat l.found.items) (commands.new_seats l.map l.game (seats_in l.seat-iterator)) ≡ commands.new_seats l.map l.game (seats_in l.fn.seats))
