use Rattle.std.proofs.Common.{◌≡◌, ◌==◌, ℕ, map}
use Rattle.std.specs.Prelude.{count_by}
use Rattle.std.specs.List.{list_all}
use Rattle.dip_desk_state.specs.Fitting.{are_complete}
use Rattle.dip_desk_state.specs.ChangeRows as desk_rows
use Rattle.dip_desk_state.specs.State.{NewSeat}
use Rattle.dip_desk_machine.proofs.creating.are_complete.Given as goal

abbrev pub invariant-loop-power : goal.invariant-loop-power
invariant-loop-power l =
    list_all (λ (p : ℕ). count_by (λ (s : NewSeat). s.power == p) (map desk_rows.new_seat l.seats) == 1) l.power-iterator
    ≡ are_complete l.map (map desk_rows.new_seat l.seats)
