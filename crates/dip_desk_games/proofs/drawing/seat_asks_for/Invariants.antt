use Rattle.std.proofs.Common.{◌≡◌, drop, map}
use Rattle.dip_desk_games.specs.Drawing as d
use Rattle.dip_desk_state.specs.Rows as rows
use Rattle.dip_desk_games.proofs.drawing.seat_asks_for.Given as goal

abbrev pub invariant-loop-seat : goal.invariant-loop-seat
invariant-loop-seat l = d.vote_of (map (λ o. rows.own o) (drop l.seat-index l.seats)) l.power ≡ d.vote_of (map (λ o. rows.own o) l.seats) l.power
