use Rattle.std.proofs.Common.{◌<◌, ◌∙◌, length, arith}
use Rattle.dip_desk_state.specs.ChangeRows as desk_rows
use Rattle.dip_desk_memory.proofs.PartLemmas.{reach_next}
use Rattle.dip_desk_memory.proofs.recording.reach_seats.Goals as goal

pub loop-seat-preserved : goal.loop-seat-preserved
loop-seat-preserved c =
    let xs = c.loop-seat.seat-items in
    let i = c.loop-seat.seat-index in
    let lt : i < length xs = omega arith in
    reach_next (desk_rows.effect c.args.effect.now) xs i c.reach_own.new.seat c.seat-item.result lt c.reach_own.ensures ∙ c.loop-seat.invariant
