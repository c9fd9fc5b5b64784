use Rattle.std.proofs.Common.{◌≡◌, ◌<◌, ◌==◌, ℕ, true, length, get_or, arith, subst, sym}
use Rattle.dip_desk_state.specs.Keyed.{place}
use Rattle.dip_desk_state.specs.State.{Seat, power_in, with_letter}
use Rattle.dip_desk_state.specs.ChangeRows as desk_rows
use Rattle.dip_desk_memory.specs.Stored.{AuthorMaySend, part, parts}
use Rattle.dip_desk_state.specs.Rows as rows
use Rattle.dip_desk_state.proofs.KeyedLemmas.{powers_tell, said_kept, said_set}
use Rattle.dip_desk_memory.proofs.PartLemmas.{at_place, at_power}
use Rattle.dip_desk_memory.proofs.recording.record_seat.Goals as goal

pub returns-then-place-len : goal.returns-then-place-len
returns-then-place-len c =
    let xs = c.args.seats.now.items in
    let i = c.seat_place-place.result in
    let old = c.index_mut.result.now in
    let here : i ≡ place (λ a b. a == b) power_in c.args.power (parts xs) = cc in
    let lt : i < length xs = omega arith in
    let is : old ≡ get_or xs i old = cc in
    said_set part (λ a b. a == b) power_in c.args.power (with_letter (rows.kept c.args.kept) (desk_rows.effect c.args.effect.now)) xs i old _ here lt is c.record_own.ensures

pub returns-else-place-len : goal.returns-else-place-len
returns-else-place-len c =
    let xs = c.args.seats.now.items in
    let here : c.seat_place-place.result ≡ place (λ a b. a == b) power_in c.args.power (parts xs) = cc in
    said_kept part (λ a b. a == b) power_in c.args.power (with_letter (rows.kept c.args.kept) (desk_rows.effect c.args.effect.now)) xs c.seat_place-place.result here (omega arith)

pub record_own-requires-clause-room : goal.record_own-requires-clause-room
record_own-requires-clause-room c =
    let xs = c.args.seats.now.items in
    let i = c.seat_place-place.result in
    let old = c.index_mut.result.now in
    let lt : i < length xs = omega arith in
    let is : old ≡ get_or xs i old = cc in
    let here : i ≡ place (λ a b. a == b) power_in c.args.power (parts xs) = cc in
    let same = powers_tell.same (power_in (part old)) c.args.power (at_power c.args.power xs i old here lt is) in
    at_place (AuthorMaySend (Seat c.args.power) (desk_rows.effect c.args.effect.now)) xs i old lt is c.requires.room
    (subst (λ (q : ℕ). (c.args.power == q) ≡ true) (sym same) (powers_tell.self c.args.power))
