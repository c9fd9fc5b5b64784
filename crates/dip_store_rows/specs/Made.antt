-- Rows as they are made: of a new desk, of a choice, and of a store that is renewed.
use Rattle.std.specs.Prelude.{ℕ, Bool, List, [], ◌∷◌, if◌then◌else◌}
use Rattle.dip_store_rows.specs.Tables.{ChoiceRow, DeskRow, SeatRow, Tables}

abbrev pub number_of : Bool → ℕ
number_of b = if b then 1 else 0

-- whether a game of that name has the option INTENT
abbrev pub choice_row : List ℕ → Bool → ChoiceRow
choice_row name intent = record { game = name; intent = number_of intent }

-- the tables of a new desk, of version 2
abbrev pub new_tables : List ℕ → List ℕ → Tables
new_tables map_sum digest = record {
  desk = record { id = 1; version = 2; map = map_sum; digest = digest; last = 0; kept = []; reply = [] } ∷ [];
  games = [];
  seats = [];
  units = [];
  centres = [];
  pending = [];
  boxes = [];
  papers = [];
  ballots = [];
  choices = [];
}

abbrev pub voteless : SeatRow → SeatRow
voteless s = record s { vote = 0 }

abbrev pub second : DeskRow → DeskRow
second d = record d { version = 2 }
