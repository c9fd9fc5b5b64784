use Rattle.std.proofs.Common.{◌≡◌, ◌++◌, ◌∷◌, [], map, ◌∙◌, ap, List}
use Rattle.std.proofs.lemmas.List.{map-append}
use Rattle.dip_letters.specs.Views.{seat_note, seats_in}
use Rattle.dip_desk_machine.specs.MasterCommands as commands
use Rattle.dip_desk_state.specs.ChangeRows as desk_rows
use Rattle.dip_desk_state.specs.State.{NewSeat}
use Rattle.dip_desk_machine.proofs.SeatLemmas.{with_front, none_found, one_found}
use Rattle.dip_desk_machine.proofs.creating.new_seats.Goals as goal

pub returns-in-None-new_seat : goal.returns-in-None-new_seat
returns-in-None-new_seat c =
    none_found c.args.map.now c.args.game.now _ _ _ (seat_note c.in-Some.seat) _ c.in-Some.ensures.steps c.in-None-new_seat.ensures c.loop-seat.invariant.2

pub loop-seat-preserved : goal.loop-seat-preserved
loop-seat-preserved c =
    let more = one_found c.args.map.now c.args.game.now _ _ _ (seat_note c.in-Some.seat) (desk_rows.new_seat c.in-Some-new_seat.next) _ c.in-Some.ensures.steps c.in-Some-new_seat.ensures c.loop-seat.invariant.2 in
    let found : map desk_rows.new_seat c.push.new.self.items ≡ map desk_rows.new_seat c.loop-seat.found.items ++ desk_rows.new_seat c.in-Some-new_seat.next ∷ [] =
    ap (λ ns. map desk_rows.new_seat ns) c.in_ok-push-in-Some-new_seat.ensures.items ∙ map-append desk_rows.new_seat c.loop-seat.found.items (c.in-Some-new_seat.next ∷ []) in
    (tt, tt, ap (λ (front : List NewSeat). with_front front (commands.new_seats c.args.map.now c.args.game.now (seats_in c.next.new.self))) found ∙ more)
