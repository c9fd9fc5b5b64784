use Rattle.std.proofs.Common.{◌≡◌, ◌+◌, ◌==◌, drop}
use Rattle.dip_desk_state.specs.Keyed.{place}
use Rattle.dip_desk_state.specs.State.{power_in}
use Rattle.dip_desk_memory.specs.Stored.{parts}
use Rattle.dip_desk_memory.proofs.recording.seat_place.Given as goal

abbrev pub invariant-loop-number : goal.invariant-loop-number
invariant-loop-number l = place (λ a b. a == b) power_in l.power (parts l.seats) ≡ l.number + place (λ a b. a == b) power_in l.power (parts (drop l.number l.seats))
