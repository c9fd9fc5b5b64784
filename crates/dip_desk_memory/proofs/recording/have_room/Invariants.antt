use Rattle.std.proofs.Common.{◌≡◌, drop}
use Rattle.dip_desk_state.specs.ChangeRows as desk_rows
use Rattle.dip_desk_state.specs.State.{have_room}
use Rattle.dip_desk_memory.specs.Stored.{parts}
use Rattle.dip_desk_memory.proofs.recording.have_room.Given as goal

abbrev pub invariant-loop-seat : goal.invariant-loop-seat
invariant-loop-seat l =
    have_room (desk_rows.author l.author) l.readers (parts (drop l.seat-index l.seats)) ≡ have_room (desk_rows.author l.author) l.readers (parts l.seats)
