-- What the letters of others show a seat.
use Rattle.std.specs.Prelude.{ℕ, ◌≡◌, ◌≢◌, ◌==◌, ◌↔◌, ◌⊎◌, Bool, true, false, List, [], ◌∷◌, Option, None, Some, bytes_eq, filter, length, ◌+◌}
use Rattle.dip_letters.specs.Notes.{SeatNote}
use Rattle.dip_letters.specs.Notes.MasterRequest.{Replace}
use Rattle.dip_letters.specs.Notes.PlayerRequest.{Press}
use Rattle.dip_letters.specs.Notes.Request.{Player, Master}
use Rattle.dip_desk_machine.specs.Mail.{Mail}
use Rattle.dip_desk_machine.specs.Pressing.{is_among, is_to_all, item_of, readers_of}
use Rattle.dip_map.specs.Charts.{Chart}
use Rattle.dip_desk_state.specs.State.{State, Game, Author, Seat, Delivers, Seats, NewSeat, game_at}
use Rattle.dip_desk_machine.specs.Machine.{Decides, SeatName, Verdict, Taken, after, author, new_seat}
use Rattle.dip_desk_state.specs.Records.{Item}
use Rattle.dip_reports.specs.Texts.{press_line, replaced_line}
use Rattle.dip_desk_machine.specs.View.{Event, IsRun, Turn, author_in, events_for, events_in, view, writes}

-- accepted press that reaches a power: the letter's command is press, the power is among its readers, and they are shown this item
pub record IsPressTo (m : Chart) (power : ℕ) (n : Mail) (who : Author) (v : Verdict) : Type 0 where
  pub writer : ℕ
  pub grey : Bool
  pub names : List (List ℕ)
  pub text : List (List ℕ)
  pub readers : List ℕ
  pub wrote : who ≡ Seat writer
  pub asked : n.note.command ≡ Player (Press grey names text)
  pub found : readers_of m writer names ≡ Some readers
  pub reaches : is_among power readers ≡ true
  pub accepted : v ≡ Taken press_line (Delivers readers (item_of m writer grey names text))

-- accepted REPLACE of a power
pub record IsReplacementOf (m : Chart) (power : ℕ) (n : Mail) (v : Verdict) : Type 0 where
  pub note : SeatNote
  pub seat : NewSeat
  pub asked : n.note.command ≡ Master (Replace note)
  pub found : new_seat m n.note.game note ≡ Some seat
  pub of : (seat.power == power) ≡ true
  pub accepted : v ≡ Taken (replaced_line note.power) (Seats seat)

-- no letter of another power shows a seat anything but press that reaches it
abbrev pub IsUnseenByOthers : Chart → Type 0
IsUnseenByOthers m = (seat : SeatName) (s : State) (n : Mail) (power : ℕ) (v : Verdict) → Decides m s n (Seat power) v
    → writes seat n (Seat power) ≡ false
    → (events_for seat n (Seat power) v ≡ []) ⊎ ((bytes_eq n.note.game seat.game ≡ true) × IsPressTo m seat.power n (Seat power) v)

-- how many papers a game has, where there is one
abbrev pub papers_in : Option Game → ℕ
papers_in None = 0
papers_in (Some g) = length g.papers

-- a paper more of the seat's game; or, in that game, press that reaches the seat or another digest for it
abbrev pub IsBrought : Chart → SeatName → State → Mail → Author → Verdict → Type 0
IsBrought m seat s n who v =
    (papers_in (game_at seat.game (after n who v s)) ≡ papers_in (game_at seat.game s) + 1)
    ⊎ ((bytes_eq n.note.game seat.game ≡ true) × (IsPressTo m seat.power n who v ⊎ IsReplacementOf m seat.power n v))

-- somebody else's letter shows a seat something exactly where it brings it one of these
abbrev pub IsShownByOthers : Chart → Type 0
IsShownByOthers m = (seat : SeatName) (s : State) (n : Mail) (v : Verdict) → Decides m s n (author m n s) v
    → writes seat n (author m n s) ≡ false → (events_for seat n (author m n s) v ≢ []) ↔ IsBrought m seat s n (author m n s) v

-- grey press with one text, to all or to some, shows a reader the same whoever wrote it, and whomever else it was for
abbrev pub IsGreyUnsigned : Chart → Type 0
IsGreyUnsigned m = (seat : SeatName) (n o : Mail) (p q : ℕ) (v w : Verdict)
    (one : IsPressTo m seat.power n (Seat p) v) (other : IsPressTo m seat.power o (Seat q) w)
    → bytes_eq n.note.game seat.game ≡ true → bytes_eq o.note.game seat.game ≡ true
    → writes seat n (Seat p) ≡ false → writes seat o (Seat q) ≡ false
    → one.grey ≡ true → other.grey ≡ true → is_to_all one.names ≡ is_to_all other.names → one.text ≡ other.text
    → events_for seat n (Seat p) v ≡ events_for seat o (Seat q) w

-- whether anything is shown
abbrev pub is_shown : List Event → Bool
is_shown [] = false
is_shown (e ∷ es) = true

-- the turns of a history that show a seat anything
abbrev pub turns_for : Chart → SeatName → List Turn → List Turn
turns_for m seat ts = filter (λ t. is_shown (events_in m seat t)) ts

-- histories that differ only in turns that show the seat nothing have one view
abbrev pub AreAlike : Chart → Type 0
AreAlike m = (seat : SeatName) (ts us : List Turn) → turns_for m seat ts ≡ turns_for m seat us → view m seat ts ≡ view m seat us

-- a turn of somebody else by which press comes to a seat, which is shown this item
pub record IsHeardIn (m : Chart) (seat : SeatName) (item : Item) (t : Turn) : Type 0 where
  pub others : writes seat t.letter (author_in m t) ≡ false
  pub game : bytes_eq t.letter.note.game seat.game ≡ true
  pub press : IsPressTo m seat.power t.letter (author_in m t) t.verdict
  pub shown : item_of m press.writer press.grey press.names press.text ≡ item

-- turns of two histories that are alike to a seat: one letter of its own, or press to it that shows it one item
abbrev pub IsAlikeTurn : Chart → SeatName → Turn → Turn → Type 0
IsAlikeTurn m seat t u =
    ((writes seat t.letter (author_in m t) ≡ true) × (writes seat u.letter (author_in m u) ≡ true) × (t.letter ≡ u.letter))
    ⊎ ((item : Item) × IsHeardIn m seat item t × IsHeardIn m seat item u)

abbrev pub AreAlikeTurns : Chart → SeatName → List Turn → List Turn → Type 0
AreAlikeTurns m seat [] [] = Unit {0}
AreAlikeTurns m seat [] (u ∷ us) = ⊥
AreAlikeTurns m seat (t ∷ ts) [] = ⊥
AreAlikeTurns m seat (t ∷ ts) (u ∷ us) = IsAlikeTurn m seat t u × AreAlikeTurns m seat ts us

-- so histories look alike to a seat up to the next publication, where it sends the same letters in them and the same press comes to it
-- in the same order: whatever others order, vote or have refused, whatever press passes between them, and whoever wrote grey press
abbrev pub HistoriesLookAlike : Chart → Type 0
HistoriesLookAlike m = (seat : SeatName) (old new first last : State) (ts us : List Turn) → IsRun m old ts new → IsRun m first us last
    → AreAlikeTurns m seat (turns_for m seat ts) (turns_for m seat us) → view m seat ts ≡ view m seat us
