use Rattle.std.proofs.Common.{ap, ◌∙◌, List, Option, option_and_then, option_map}
use Rattle.dip_desk_state.specs.State as s
use Rattle.dip_desk_memory.specs.Stored.{parts}
use Rattle.dip_desk_memory.specs.declared.games.SeatRow.{SeatRow}
use Rattle.dip_desk_memory.proofs.PartLemmas.{of_seat}
use Rattle.dip_desk_memory.proofs.games.find_seat.Goals as goal

pub returns-clause-own : goal.returns-clause-own
returns-clause-own c =
    of_seat (λ p. p.own) c.seat_of.result _ c.seat_of.ensures
    ∙ ap (λ (xs : List SeatRow). s.own_of (s.seat_at c.args.power (parts xs))) c.as_slice.ensures.value
    ∙ ap (λ (x : Option s.Game). option_and_then (λ g. s.own_of (s.seat_at c.args.power g.seats)) x) c.in_ok-game.ensures.found

pub returns-clause-page : goal.returns-clause-page
returns-clause-page c first most =
    of_seat (λ p. s.page_of first most p.box) c.seat_of.result _ c.seat_of.ensures
    ∙ ap (λ (xs : List SeatRow). option_map (λ p. s.page_of first most p.box) (s.seat_at c.args.power (parts xs))) c.as_slice.ensures.value
    ∙ ap (λ (x : Option s.Game). option_and_then (λ g. option_map (λ p. s.page_of first most p.box) (s.seat_at c.args.power g.seats)) x) c.in_ok-game.ensures.found
