-- Ballots and seats after the others, some more and none.
use Rattle.std.proofs.Common.{◌≡◌, List, [], ◌++◌, ap, sym, ◌∙◌, append_assoc, append-nil}
use Rattle.dip_store_sql.specs.TablesAfter.{more_ballots}
use Rattle.dip_store_tables.specs.Tables.{BallotRow, SeatRow, Tables}
use Rattle.dip_store_changes.specs.Seats.{more_seats}

pub seats_more : (ps qs rs : List SeatRow) → rs ≡ ps ++ qs → (t : Tables) → more_seats qs (more_seats ps t) ≡ more_seats rs t
seats_more ps qs rs is t = ap (λ rows. record t { seats = rows }) (append_assoc t.seats ps qs ∙ ap (λ xs. t.seats ++ xs) (sym is))

pub no_seats_more : (t : Tables) → more_seats [] t ≡ t
no_seats_more t = ap (λ rows. record t { seats = rows }) (append-nil t.seats)

pub ballots_more : (ps qs rs : List BallotRow) → rs ≡ ps ++ qs → (t : Tables) → more_ballots qs (more_ballots ps t) ≡ more_ballots rs t
ballots_more ps qs rs is t = ap (λ rows. record t { ballots = rows }) (append_assoc t.ballots ps qs ∙ ap (λ xs. t.ballots ++ xs) (sym is))

pub no_ballots_more : (t : Tables) → more_ballots [] t ≡ t
no_ballots_more t = ap (λ rows. record t { ballots = rows }) (append-nil t.ballots)
