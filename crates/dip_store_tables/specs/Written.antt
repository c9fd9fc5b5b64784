-- What stands in tables that a keeper wrote: each row is that of a record of the map, so that it can be read back.
use Rattle.std.specs.Prelude.{◌≡◌, ◌<◌, ◌^◌, ◌==◌, ℕ, false, List, [], length, filter, codes, Option, None, Some}
use Rattle.std.specs.List.{AllByRecursion, find}
use Rattle.dip_map.specs.Charts.{Chart}
use Rattle.dip_map.specs.Boards.{IsOf}
use Rattle.dip_store_tables.specs.Boards.{UnitRow, CentreRow, code, unit_rows, centre_rows}
use Rattle.dip_desk_state.specs.Records.{Public, Item, Kept}
use Rattle.dip_desk_state.specs.Writable.{IsPlainItem, IsStatusOf}
use Rattle.dip_store_tables.specs.ChangeColumns.{IsNarrow}
use Rattle.dip_store_rows.specs.Tables.{DeskRow, GameRow, SeatRow, PendingRow, BoxRow, ChoiceRow, Tables, is_unit_in, is_centre_in, is_choice_in}
use Rattle.dip_store_tables.specs.Writing.{box_row, choice_row, game_row, whole_reply}
use Rattle.dip_store_tables.specs.Votes.{IsBallotText}

-- of an author's last letter: nothing before the first, then its number, its sum, and its reply as it was printed
abbrev pub KeepsLetter : List ℕ → List ℕ → Option Kept → ℕ → List ℕ → List ℕ → Type 0
KeepsLetter game sender None last kept reply = (last ≡ 0) × (kept ≡ []) × (reply ≡ [])
KeepsLetter game sender (Some k) last kept reply =
    ((k.number == 0) ≡ false) × (k.number < 2 ^ 32) × (last ≡ k.number) × (kept ≡ k.sum) × (length kept ≡ 32)
    × (reply ≡ whole_reply game sender k)

-- the master's row; the master has one count of letters for all games
pub record IsDeskWritten (d : DeskRow) : Type 0 where
  pub digest : length d.digest ≡ 32
  pub letter : (game : List ℕ) × (k : Option Kept) × KeepsLetter game (codes "master") k d.last d.kept d.reply

pub record IsSeatWritten (s : SeatRow) : Type 0 where
  pub digest : length s.digest ≡ 32
  pub vote : s.vote ≡ 0
  pub letter : (k : Option Kept) × KeepsLetter s.game s.power k s.last s.kept s.reply

-- a game's row, its units, its centres and its choice are those of a public part of the map
pub record IsGameWritten (m : Chart) (units : List UnitRow) (centres : List CentreRow) (choices : List ChoiceRow) (g : GameRow) : Type 0 where
  pub public : Public
  pub board : IsOf m public.board
  pub status : IsStatusOf m public.status
  pub due : public.due < 2 ^ 63
  pub narrow : IsNarrow public
  pub row : g ≡ game_row m g.name public
  pub its_units : filter (is_unit_in g.name) units ≡ unit_rows m g.name public.board
  pub its_centres : filter (is_centre_in g.name) centres ≡ centre_rows m g.name public.board
  pub its_choice : find (is_choice_in g.name) choices ≡ Some (choice_row g.name public.board.intent)

-- a standing order's province is one of the map, and an item's words and lines are found again
abbrev pub IsOrderWritten : Chart → PendingRow → Type 0
IsOrderWritten m p = (o : ℕ) × (o < length m.provinces) × (p.province ≡ code m o)

abbrev pub IsItemWritten : BoxRow → Type 0
IsItemWritten b = (item : Item) × IsPlainItem item × (b ≡ box_row b.game b.power b.number item)

pub record AreWritten (m : Chart) (t : Tables) : Type 0 where
  pub desk : AllByRecursion IsDeskWritten t.desk
  pub games : AllByRecursion (IsGameWritten m t.units t.centres t.choices) t.games
  pub seats : AllByRecursion IsSeatWritten t.seats
  pub pending : AllByRecursion (IsOrderWritten m) t.pending
  pub boxes : AllByRecursion IsItemWritten t.boxes
  pub ballots : AllByRecursion (λ b. IsBallotText m b.names) t.ballots
