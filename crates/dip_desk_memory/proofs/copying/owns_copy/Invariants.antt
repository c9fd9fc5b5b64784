use Rattle.std.proofs.Common.{◌≡◌, take, map}
use Rattle.dip_desk_state.specs.Rows as rows
use Rattle.dip_desk_memory.specs.Stored.{parts}
use Rattle.dip_desk_memory.proofs.copying.owns_copy.Given as goal

abbrev pub invariant-loop-seat : goal.invariant-loop-seat
invariant-loop-seat l = map (λ o. rows.own o) l.copy.items ≡ map (λ p. p.own) (parts (take l.seat-index l.seats))
