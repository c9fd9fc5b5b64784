-- What new seats, ballots and a choice make of the tables.
use Rattle.std.specs.Prelude.{ℕ, Bool, List, [], ◌∷◌, ◌++◌, map}
use Rattle.dip_store_tables.specs.Lists.{delete_where}
use Rattle.dip_map.specs.Charts.{Chart}
use Rattle.dip_desk_state.specs.State.{NewSeat}
use Rattle.dip_store_tables.specs.Tables.{SeatRow, Tables, is_ballot_in, is_choice_in}
use Rattle.dip_store_tables.specs.Writing.{ballot_row, choice_row}
use Rattle.dip_store_sql.specs.Keys.{Differ, same_ballot, same_choice}

-- records after the others
abbrev pub more_seats : List SeatRow → Tables → Tables
more_seats ss t = record t { seats = t.seats ++ ss }

-- a game's choice is this
abbrev pub choosing : List ℕ → Bool → Tables → Tables
choosing game intent t = record t { choices = delete_where (is_choice_in game) t.choices ++ choice_row game intent ∷ [] }

-- a game's ballots are those of new seats, and its choice is this
abbrev pub with_votes : Chart → List ℕ → List NewSeat → Bool → Tables → Tables
with_votes m game seats intent t = record t {
  ballots = delete_where (is_ballot_in game) t.ballots ++ map (ballot_row m game) seats;
  choices = delete_where (is_choice_in game) t.choices ++ choice_row game intent ∷ [];
}

-- no two ballots and no two choices agree on their key
abbrev pub VotesDiffer : Tables → Type 0
VotesDiffer t = Differ same_ballot t.ballots × Differ same_choice t.choices
