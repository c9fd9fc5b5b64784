use Rattle.std.proofs.Common.{◌≡◌, take, map}
use Rattle.dip_desk_state.specs.ChangeRows as desk_rows
use Rattle.dip_desk_state.specs.State.{fresh}
use Rattle.dip_desk_memory.specs.Stored.{parts}
use Rattle.dip_desk_memory.proofs.opening.rows_of.Given as goal

abbrev pub invariant-loop-seat : goal.invariant-loop-seat
invariant-loop-seat l = parts l.new_rows.items ≡ map fresh (map (λ n. desk_rows.new_seat n) (take l.seat-index l.seats))
