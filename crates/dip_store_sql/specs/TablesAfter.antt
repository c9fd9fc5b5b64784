-- What the statements make of the tables.
use Rattle.std.specs.Prelude.{ℕ, ◌==◌, Bool, List, [], ◌∷◌, ◌++◌, map}
use Rattle.dip_store_rows.specs.Lists.{update_where, delete_where}
use Rattle.dip_store_rows.specs.Tables.{UnitRow, CentreRow}
use Rattle.dip_store_rows.specs.Tables.{DeskRow, GameRow, SeatRow, PendingRow, BoxRow, PaperRow, BallotRow, ChoiceRow, Tables, is_seat_in, is_unit_in, is_centre_in, is_pending_in, is_box_in, is_paper_in, is_ballot_in, is_choice_in, is_named, is_seat, is_pending, is_ballot}

-- a record after the others
abbrev pub with_desk : DeskRow → Tables → Tables
with_desk d t = record t { desk = t.desk ++ d ∷ [] }

abbrev pub with_game : GameRow → Tables → Tables
with_game g t = record t { games = t.games ++ g ∷ [] }

abbrev pub with_seat : SeatRow → Tables → Tables
with_seat s t = record t { seats = t.seats ++ s ∷ [] }

abbrev pub with_unit : UnitRow → Tables → Tables
with_unit u t = record t { units = t.units ++ u ∷ [] }

abbrev pub with_centre : CentreRow → Tables → Tables
with_centre c t = record t { centres = t.centres ++ c ∷ [] }

abbrev pub with_item : BoxRow → Tables → Tables
with_item b t = record t { boxes = t.boxes ++ b ∷ [] }

abbrev pub with_paper : PaperRow → Tables → Tables
with_paper p t = record t { papers = t.papers ++ p ∷ [] }

abbrev pub with_ballot : BallotRow → Tables → Tables
with_ballot b t = record t { ballots = t.ballots ++ b ∷ [] }

abbrev pub with_choice : ChoiceRow → Tables → Tables
with_choice c t = record t { choices = t.choices ++ c ∷ [] }

-- ballots after the others
abbrev pub more_ballots : List BallotRow → Tables → Tables
more_ballots bs t = record t { ballots = t.ballots ++ bs }

-- an order of a seat, by its province and its line; and orders after the others
abbrev pub order : List ℕ → List ℕ → (List ℕ × List ℕ) → PendingRow
order game power o = record { game = game; power = power; province = o.0; line = o.1 }

abbrev pub more_orders : List PendingRow → Tables → Tables
more_orders ps t = record t { pending = t.pending ++ ps }

-- none of a game, or of a seat
abbrev pub no_seats : List ℕ → Tables → Tables
no_seats game t = record t { seats = delete_where (is_seat_in game) t.seats }

abbrev pub no_units : List ℕ → Tables → Tables
no_units game t = record t { units = delete_where (is_unit_in game) t.units }

abbrev pub no_centres : List ℕ → Tables → Tables
no_centres game t = record t { centres = delete_where (is_centre_in game) t.centres }

abbrev pub no_pending : List ℕ → Tables → Tables
no_pending game t = record t { pending = delete_where (is_pending_in game) t.pending }

abbrev pub no_orders : List ℕ → List ℕ → Tables → Tables
no_orders game power t =
    record t { pending = delete_where (is_pending game power) t.pending }

abbrev pub no_items : List ℕ → Tables → Tables
no_items game t = record t { boxes = delete_where (is_box_in game) t.boxes }

abbrev pub no_papers : List ℕ → Tables → Tables
no_papers game t = record t { papers = delete_where (is_paper_in game) t.papers }

abbrev pub no_ballots : List ℕ → Tables → Tables
no_ballots game t = record t { ballots = delete_where (is_ballot_in game) t.ballots }

abbrev pub no_choices : List ℕ → Tables → Tables
no_choices game t = record t { choices = delete_where (is_choice_in game) t.choices }

-- one record written anew
abbrev pub is_first : DeskRow → Bool
is_first d = d.id == 1

abbrev pub on_desk : (DeskRow → DeskRow) → Tables → Tables
on_desk f t = record t { desk = update_where is_first f t.desk }

abbrev pub on_game : List ℕ → (GameRow → GameRow) → Tables → Tables
on_game name f t = record t { games = update_where (is_named name) f t.games }

abbrev pub on_seat : List ℕ → List ℕ → (SeatRow → SeatRow) → Tables → Tables
on_seat game power f t = record t { seats = update_where (is_seat game power) f t.seats }

abbrev pub on_ballot : List ℕ → List ℕ → (BallotRow → BallotRow) → Tables → Tables
on_ballot game power f t = record t { ballots = update_where (is_ballot game power) f t.ballots }

-- each seat written anew
abbrev pub on_seats : (SeatRow → SeatRow) → Tables → Tables
on_seats f t = record t { seats = map f t.seats }

-- tables without a row
abbrev pub no_tables : Tables
no_tables = record {
  desk = [];
  games = [];
  seats = [];
  units = [];
  centres = [];
  pending = [];
  boxes = [];
  papers = [];
  ballots = [];
  choices = [];
}

-- the master's row of a new desk, of version 2
abbrev pub new_desk : List ℕ → List ℕ → DeskRow
new_desk map digest =
    record { id = 1; version = 2; map = map; digest = digest; last = 0; kept = []; reply = [] }

-- a seat that nobody has used yet
abbrev pub new_seat : List ℕ → List ℕ → List ℕ → SeatRow
new_seat game power digest = record {
  game = game;
  power = power;
  digest = digest;
  vote = 0;
  last = 0;
  kept = [];
  reply = [];
  sent = 0;
  items = 0;
}

-- with its author's last letter: its number, the sum of its bytes, and its reply
abbrev pub desk_with : ℕ → List ℕ → List ℕ → DeskRow → DeskRow
desk_with last kept reply d = record d { last = last; kept = kept; reply = reply }

-- all but a seat's keys and its vote: the digest of its secret, its last letter, how much it has sent, and how many items it has
abbrev pub seat_with : List ℕ → ℕ → List ℕ → List ℕ → ℕ → ℕ → SeatRow → SeatRow
seat_with digest last kept reply sent items s =
    record s { digest = digest; last = last; kept = kept; reply = reply; sent = sent; items = items }

abbrev pub named : List ℕ → BallotRow → BallotRow
named names b = record b { names = names }

abbrev pub counting : ℕ → SeatRow → SeatRow
counting items s = record s { items = items }

abbrev pub secret_as : List ℕ → SeatRow → SeatRow
secret_as digest s = record s { digest = digest }

-- all but the name is that of another row
abbrev pub game_as : GameRow → GameRow → GameRow
game_as new g = record new { name = g.name }
