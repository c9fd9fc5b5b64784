-- Rows that can be read by a map: each column has a value of its kind, and what it says is of the map.
use Rattle.std.specs.Prelude.{◌≡◌, ℕ, ◌<◌, ◌+◌, ◌^◌, List, Option, None, Some, length, map}
use Rattle.std.specs.List.{AllByRecursion}
use Rattle.sqlite.specs.Order.{Row, column, bytes}
use Rattle.dip_store_tables.specs.Boards.{code, power_name}
use Rattle.dip_store_tables.specs.WrittenBoards.{AreOfBoard}
use Rattle.dip_map.specs.Charts.{Chart}
use Rattle.dip_store_tables.specs.Columns.{IsPrinted, IsStatusText}
use Rattle.dip_store_tables.specs.Votes.{IsBallotText}
use Rattle.dip_store_sql.specs.Rows.{number_in}
use Rattle.dip_store_sql.specs.Values.{HasDigest, HasNumber, HasText, HasTick}
use Rattle.dip_store_looks.specs.Shown.{shown_centre, shown_unit}

pub record IsUnitReadable (r : Row) : Type 0 where
  pub province : HasText r 0
  pub dislodged : HasNumber r 1
  pub power : HasText r 2
  pub kind : HasNumber r 3
  pub coast : HasText r 4
  pub origin : HasText r 5

pub record IsCentreReadable (r : Row) : Type 0 where
  pub province : HasText r 0
  pub power : HasText r 1

-- a board of the map
pub record IsBoardReadable (m : Chart) (r : Row) (units centres : List Row) : Type 0 where
  pub units_are : AllByRecursion IsUnitReadable units
  pub centres_are : AllByRecursion IsCentreReadable centres
  pub year : HasNumber r 0
  pub narrow : number_in (column r 0) < 2 ^ 16
  pub season : HasNumber r 1
  pub standoff : HasText r 7
  pub of_map : AreOfBoard m (map shown_unit units) (map shown_centre centres) (bytes (column r 7))
      (number_in (column r 1))

-- the row of a choice, if there is one
abbrev pub IsChoiceReadable : Option Row → Type 0
IsChoiceReadable None = Unit {0}
IsChoiceReadable (Some r) = HasNumber r 0

pub record IsGameReadable (m : Chart) (r : Row) (units centres : List Row) (choice : Option Row) : Type 0 where
  pub board : IsBoardReadable m r units centres
  pub status : HasText r 2
  pub told : IsStatusText m (bytes (column r 2))
  pub due : HasTick r 3
  pub period : HasNumber r 4
  pub grey : HasNumber r 5
  pub papers : HasNumber r 6
  pub intent : IsChoiceReadable choice

-- an author's last letter, from a column on: its number, and after the first letter a sum and a printed reply
pub record IsKeptReadable (r : Row) (at : ℕ) : Type 0 where
  pub last : HasNumber r at
  pub sum : (number_in (column r at) ≡ 0 → ⊥) → HasDigest r (at + 1)
  pub reply : (number_in (column r at) ≡ 0 → ⊥) → HasText r (at + 2)
  pub printed : (number_in (column r at) ≡ 0 → ⊥) → IsPrinted (bytes (column r (at + 2)))

-- a standing order of a province of the map
pub record IsOrderReadable (m : Chart) (r : Row) : Type 0 where
  pub province : HasText r 0
  pub number : ℕ
  pub low : number < length m.provinces
  pub of_map : bytes (column r 0) ≡ code m number
  pub line : HasText r 1

-- a seat, from a column on
pub record IsSeatReadable (r : Row) (at : ℕ) : Type 0 where
  pub digest : HasDigest r at
  pub kept : IsKeptReadable r (at + 2)
  pub sent : HasNumber r (at + 5)
  pub items : HasNumber r (at + 6)

-- a seat whose row begins with the name of a power of the map
pub record IsListedReadable (m : Chart) (r : Row) : Type 0 where
  pub name : HasText r 0
  pub number : ℕ
  pub low : number < length m.realms
  pub of_map : bytes (column r 0) ≡ power_name m number
  pub seat : IsSeatReadable r 1

-- a ballot whose text is that of a vote of the map
pub record IsBallotReadable (m : Chart) (r : Row) : Type 0 where
  pub text : HasText r 0
  pub vote : IsBallotText m (bytes (column r 0))

pub record IsItemReadable (r : Row) : Type 0 where
  pub grey : HasNumber r 0
  pub writer : HasText r 1
  pub addressees : HasText r 2
  pub body : HasText r 3

pub record IsDeskReadable (r : Row) : Type 0 where
  pub digest : HasDigest r 2
  pub kept : IsKeptReadable r 3
