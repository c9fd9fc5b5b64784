use Rattle.std.proofs.Common.{◌<◌, ◌∙◌, length, arith}
use Rattle.dip_desk_state.specs.ChangeRows as desk_rows
use Rattle.dip_store_memory.specs.Owns.{own_after}
use Rattle.dip_store_memory.proofs.Owning.{next_reached}
use Rattle.dip_store_memory.proofs.owns.reach_owns.Goals as goal

pub loop-own-preserved : goal.loop-own-preserved
loop-own-preserved c =
    let xs = c.loop-own.own-items in
    let i = c.loop-own.own-index in
    let lt : i < length xs = omega arith in
    next_reached (own_after (desk_rows.change c.args.change.now)) xs i c.reach_own.new.own c.own-item.result lt c.in_ok-reach_own.ensures ∙ c.loop-own.invariant
