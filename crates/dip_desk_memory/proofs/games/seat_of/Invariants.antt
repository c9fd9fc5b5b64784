use Rattle.std.proofs.Common.{◌≡◌, drop}
use Rattle.dip_desk_state.specs.State.{seat_at}
use Rattle.dip_desk_memory.specs.Stored.{parts}
use Rattle.dip_desk_memory.proofs.games.seat_of.Given as goal

abbrev pub invariant-loop-seat : goal.invariant-loop-seat
invariant-loop-seat l = seat_at l.power (parts (drop l.seat-index l.seats)) ≡ seat_at l.power (parts l.seats)
