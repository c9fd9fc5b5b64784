use Rattle.std.proofs.Common.{◌≡◌, ℕ, ◌<◌, get_or, length}
use Rattle.dip_desk_state.specs.declared.changes.NewSeat.{NewSeat}
use Rattle.dip_store_tables.proofs.widths.seats_have_32.Given as goal

abbrev pub invariant-loop-seat : goal.invariant-loop-seat
invariant-loop-seat l = (k : ℕ) (d : NewSeat) → k < l.seat-index → length (get_or l.seats k d).digest ≡ 32
