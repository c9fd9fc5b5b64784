use Rattle.std.proofs.Common.{◌≡◌, ◌++◌, map, take, drop}
use Rattle.dip_desk_state.specs.ChangeRows as desk_rows
use Rattle.dip_desk_memory.specs.Stored.{parts, reached}
use Rattle.dip_desk_memory.proofs.recording.reach_seats.Given as goal

abbrev pub invariant-loop-seat : goal.invariant-loop-seat
invariant-loop-seat l =
    let e = desk_rows.effect l.effect in
    take l.seat-index (parts l.seat-items) ++ map (reached e) (drop l.seat-index (parts l.seat-items)) ≡ map (reached e) (parts l.fn.seats.items)
