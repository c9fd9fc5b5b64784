-- Tables of version 1, and the tables of version 2 that say the same.
use Rattle.std.specs.Prelude.{◌≡◌, ◌⊎◌, ◌==◌, ℕ, true, false, List, [], ◌∷◌, length, map, filter, codes, Option, if◌then◌else◌}
use Rattle.std.specs.List.{AllByRecursion}
use Rattle.sqlite_keyed.specs.Lists.{update_where}
use Rattle.dip_map.specs.Charts.{Chart, IsMap}
use Rattle.dip_store_tables.specs.Boards.{CentreRow, UnitRow}
use Rattle.dip_desk_state.specs.Records.{Kept, Vote, No, Yes}
use Rattle.dip_desk_state.specs.State.{Game, Part, State}
use Rattle.dip_store_tables.specs.Coding.{AreApart, HasGame, IsSeatOf}
use Rattle.dip_store_tables.specs.Counting.{AreCounted}
use Rattle.dip_store_tables.specs.Legible.{AreLegible, AreOurs, IsText}
use Rattle.dip_store_tables.specs.Reading.{desk_of, items_of, own_of, papers_of, public_of, state_of}
use Rattle.dip_store_rows.specs.Tables.{BallotRow, ChoiceRow, DeskRow, GameRow, SeatRow, Tables, is_seat_in}
use Rattle.dip_store_tables.specs.Writing.{choice_row}
use Rattle.dip_store_tables.specs.Written.{IsDeskWritten, IsGameWritten, IsItemWritten, IsOrderWritten, KeepsLetter}
pub use Rattle.dip_store_rows.specs.Made.{second, voteless}

-- in version 1 a seat's vote stands in its row: 0 for none, 1 for a draw between all survivors
abbrev pub old_vote : ℕ → Vote
old_vote n = if n == 0 then No else Yes

-- what tables of version 1 say of the desk: a seat's vote is that of its row, no game has the option INTENT, and all else is said as in version 2
abbrev pub old_part_of : Chart → Tables → SeatRow → Part
old_part_of m t s = record {
  own = record (own_of m t.pending [] s) { vote = old_vote s.vote };
  box = items_of t.boxes s.game s.power;
}

abbrev pub old_game_of : Chart → Tables → GameRow → Game
old_game_of m t g = record {
  public = public_of m t.units t.centres [] g;
  papers = papers_of t.papers g.name;
  seats = map (old_part_of m t) (filter (is_seat_in g.name) t.seats);
}

abbrev pub old_state_of : Chart → Tables → State
old_state_of m t = record { desk = desk_of t.desk; games = map (old_game_of m t) t.games }

-- a seat's vote as a ballot, a game's choice, which is none, a seat's row without a vote, and a master's row of version 2
abbrev pub old_ballot : SeatRow → BallotRow
old_ballot s = record {
  game = s.game;
  power = s.power;
  names = if s.vote == 0 then codes "NO" else codes "YES";
}

abbrev pub old_choice : List ℕ → ChoiceRow
old_choice name = choice_row name false

-- the tables of version 2: each seat's vote on its ballot, no game with the option INTENT, and all else as it was
abbrev pub renewed : Tables → Tables
renewed t = record t {
  desk = update_where (λ d. d.id == 1) second t.desk;
  seats = map voteless t.seats;
  ballots = map old_ballot t.seats;
  choices = map (λ g. old_choice g.name) t.games;
}

-- a game as a keeper of version 1 wrote it: as one without the option INTENT is written
abbrev pub WasGameWritten : Chart → List UnitRow → List CentreRow → GameRow → Type 0
WasGameWritten m units centres g = IsGameWritten m units centres (old_choice g.name ∷ []) g

-- a seat's row as a keeper of version 1 wrote it
pub record WasSeatWritten (s : SeatRow) : Type 0 where
  pub digest : length s.digest ≡ 32
  pub vote : (s.vote ≡ 0) ⊎ (s.vote ≡ 1)
  pub letter : (k : Option Kept) × KeepsLetter s.game s.power k s.last s.kept s.reply

-- tables that a keeper of version 1 wrote by the map: but for the votes as those of version 2
pub record WereOurs (m : Chart) (t : Tables) : Type 0 where
  pub map : IsMap m
  pub desk : (d : DeskRow) × (t.desk ≡ d ∷ []) × ((d.id == 1) ≡ true)
  pub desks : AllByRecursion IsDeskWritten t.desk
  pub games : AllByRecursion (WasGameWritten m t.units t.centres) t.games
  pub names : AllByRecursion (λ g. IsText g.name) t.games
  pub seats : AllByRecursion WasSeatWritten t.seats
  pub powers : AllByRecursion (IsSeatOf m) t.seats
  pub played : AllByRecursion (λ s. HasGame t.games s.game) t.seats
  pub pending : AllByRecursion (IsOrderWritten m) t.pending
  pub boxes : AllByRecursion IsItemWritten t.boxes
  pub legible : AreLegible t

-- such tables become tables of version 2 that say the same, and are such as a keeper wrote
pub record IsRenewed (m : Chart) (t : Tables) : Type 0 where
  pub says : state_of m (renewed t) ≡ old_state_of m t
  pub ours : AreOurs m (renewed t)
  pub counted : AreCounted t → AreCounted (renewed t)

abbrev pub OldTablesAreRenewed : Chart → Type 0
OldTablesAreRenewed m = (t : Tables) → WereOurs m t → AreApart t → IsRenewed m t
