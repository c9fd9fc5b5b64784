-- The keys of the ten tables: no two rows of a table agree on its key.
use Rattle.std.specs.Prelude.{◌≡◌, ◌==◌, ◌&&◌, Bool, false, List, bytes_eq}
use Rattle.sqlite.specs.Tree.{IsAscending}
use Rattle.dip_store_rows.specs.Tables.{UnitRow, CentreRow}
use Rattle.dip_store_rows.specs.Apart.{same_name, same_seat}
use Rattle.dip_store_rows.specs.Tables.{DeskRow, PendingRow, BoxRow, PaperRow, BallotRow, ChoiceRow, Tables}

abbrev pub same_desk : DeskRow → DeskRow → Bool
same_desk a b = a.id == b.id

abbrev pub same_unit : UnitRow → UnitRow → Bool
same_unit a b = bytes_eq a.game b.game && (bytes_eq a.province b.province && (a.dislodged == b.dislodged))

abbrev pub same_centre : CentreRow → CentreRow → Bool
same_centre a b = bytes_eq a.game b.game && bytes_eq a.province b.province

abbrev pub same_order : PendingRow → PendingRow → Bool
same_order a b = bytes_eq a.game b.game && (bytes_eq a.power b.power && bytes_eq a.province b.province)

abbrev pub same_item : BoxRow → BoxRow → Bool
same_item a b = bytes_eq a.game b.game && (bytes_eq a.power b.power && (a.number == b.number))

abbrev pub same_paper : PaperRow → PaperRow → Bool
same_paper a b = bytes_eq a.game b.game && (a.number == b.number)

abbrev pub same_ballot : BallotRow → BallotRow → Bool
same_ballot a b = bytes_eq a.game b.game && bytes_eq a.power b.power

abbrev pub same_choice : ChoiceRow → ChoiceRow → Bool
same_choice a b = bytes_eq a.game b.game

-- no two records of a list agree on their key
abbrev pub Differ : {A : Type 0} → (A → A → Bool) → List A → Type 0
Differ same xs = IsAscending (λ a b. same a b ≡ false) xs

-- a table by its key, one definition for each of the ten
abbrev pub DesksDiffer : Tables → Type 0
DesksDiffer t = Differ same_desk t.desk

abbrev pub GamesDiffer : Tables → Type 0
GamesDiffer t = Differ same_name t.games

abbrev pub SeatsDiffer : Tables → Type 0
SeatsDiffer t = Differ same_seat t.seats

abbrev pub UnitsDiffer : Tables → Type 0
UnitsDiffer t = Differ same_unit t.units

abbrev pub CentresDiffer : Tables → Type 0
CentresDiffer t = Differ same_centre t.centres

abbrev pub OrdersDiffer : Tables → Type 0
OrdersDiffer t = Differ same_order t.pending

abbrev pub ItemsDiffer : Tables → Type 0
ItemsDiffer t = Differ same_item t.boxes

abbrev pub PapersDiffer : Tables → Type 0
PapersDiffer t = Differ same_paper t.papers

abbrev pub BallotsDiffer : Tables → Type 0
BallotsDiffer t = Differ same_ballot t.ballots

abbrev pub ChoicesDiffer : Tables → Type 0
ChoicesDiffer t = Differ same_choice t.choices

pub record AreKeyed (t : Tables) : Type 0 where
  pub desk : Differ same_desk t.desk
  pub games : Differ same_name t.games
  pub seats : Differ same_seat t.seats
  pub units : Differ same_unit t.units
  pub centres : Differ same_centre t.centres
  pub pending : Differ same_order t.pending
  pub boxes : Differ same_item t.boxes
  pub papers : Differ same_paper t.papers
  pub ballots : Differ same_ballot t.ballots
  pub choices : Differ same_choice t.choices
