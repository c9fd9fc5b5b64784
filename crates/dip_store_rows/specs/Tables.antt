-- The tables, each a list of records with a field a column.
use Rattle.std.specs.Prelude.{ℕ, Bool, ◌&&◌, List, bytes_eq}

-- the master's row: the tables' version, the SHA-256 of the map's text, the digest of the master's secret, and the last letter
pub record DeskRow : Type 0 where
  pub id : ℕ
  pub version : ℕ
  pub map : List ℕ
  pub digest : List ℕ
  pub last : ℕ
  pub kept : List ℕ
  pub reply : List ℕ

pub record GameRow : Type 0 where
  pub name : List ℕ
  pub year : ℕ
  pub phase : ℕ
  pub status : List ℕ
  pub due : ℕ
  pub period : ℕ
  pub grey : ℕ
  pub papers : ℕ
  pub standoff : List ℕ

pub record SeatRow : Type 0 where
  pub game : List ℕ
  pub power : List ℕ
  pub digest : List ℕ
  pub vote : ℕ
  pub last : ℕ
  pub kept : List ℕ
  pub reply : List ℕ
  pub sent : ℕ
  pub items : ℕ

-- a unit of a game: kind 0 is an army, 1 a fleet; an army has no coast, nor has a fleet where there is but one; the origin is that of a
-- dislodged unit's attacker, empty where that came by convoy
pub record UnitRow : Type 0 where
  pub game : List ℕ
  pub province : List ℕ
  pub dislodged : ℕ
  pub power : List ℕ
  pub kind : ℕ
  pub coast : List ℕ
  pub origin : List ℕ

-- a centre that a power owns
pub record CentreRow : Type 0 where
  pub game : List ℕ
  pub province : List ℕ
  pub power : List ℕ

-- a standing order
pub record PendingRow : Type 0 where
  pub game : List ℕ
  pub power : List ℕ
  pub province : List ℕ
  pub line : List ℕ

-- an item of an inbox
pub record BoxRow : Type 0 where
  pub game : List ℕ
  pub power : List ℕ
  pub number : ℕ
  pub grey : ℕ
  pub writer : List ℕ
  pub addressees : List ℕ
  pub body : List ℕ

pub record PaperRow : Type 0 where
  pub game : List ℕ
  pub number : ℕ
  pub body : List ℕ

-- what a seat votes for: NO, YES, or the names of the powers between which it wants a draw
pub record BallotRow : Type 0 where
  pub game : List ℕ
  pub power : List ℕ
  pub names : List ℕ

-- the option INTENT of a game: 1 where it has it, 0 where it hasn't
pub record ChoiceRow : Type 0 where
  pub game : List ℕ
  pub intent : ℕ

-- all of them, the rows of each in the order in which they were put in
pub record Tables : Type 0 where
  pub desk : List DeskRow
  pub games : List GameRow
  pub seats : List SeatRow
  pub units : List UnitRow
  pub centres : List CentreRow
  pub pending : List PendingRow
  pub boxes : List BoxRow
  pub papers : List PaperRow
  pub ballots : List BallotRow
  pub choices : List ChoiceRow

-- which rows are of a game
abbrev pub is_named : List ℕ → GameRow → Bool
is_named name g = bytes_eq g.name name

abbrev pub is_seat_in : List ℕ → SeatRow → Bool
is_seat_in name s = bytes_eq s.game name

abbrev pub is_unit_in : List ℕ → UnitRow → Bool
is_unit_in name u = bytes_eq u.game name

abbrev pub is_centre_in : List ℕ → CentreRow → Bool
is_centre_in name c = bytes_eq c.game name

abbrev pub is_pending_in : List ℕ → PendingRow → Bool
is_pending_in name p = bytes_eq p.game name

abbrev pub is_box_in : List ℕ → BoxRow → Bool
is_box_in name b = bytes_eq b.game name

abbrev pub is_paper_in : List ℕ → PaperRow → Bool
is_paper_in name p = bytes_eq p.game name

abbrev pub is_ballot_in : List ℕ → BallotRow → Bool
is_ballot_in name b = bytes_eq b.game name

abbrev pub is_choice_in : List ℕ → ChoiceRow → Bool
is_choice_in name c = bytes_eq c.game name

-- which rows are of a seat, by its game's name and its power's
abbrev pub is_seat : List ℕ → List ℕ → SeatRow → Bool
is_seat name power s = bytes_eq s.game name && bytes_eq s.power power

abbrev pub is_pending : List ℕ → List ℕ → PendingRow → Bool
is_pending name power p = bytes_eq p.game name && bytes_eq p.power power

abbrev pub is_box : List ℕ → List ℕ → BoxRow → Bool
is_box name power b = bytes_eq b.game name && bytes_eq b.power power

abbrev pub is_ballot : List ℕ → List ℕ → BallotRow → Bool
is_ballot name power b = bytes_eq b.game name && bytes_eq b.power power
