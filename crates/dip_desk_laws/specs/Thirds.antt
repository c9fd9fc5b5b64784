-- Histories that third seats can't tell apart.
use Rattle.std.specs.Prelude.{ℕ, ◌≡◌, ◌⊎◌, ◌&&◌, ◌||◌, not, Bool, true, false, List, [], ◌∷◌, bytes_eq, filter}
use Rattle.dip_letters.specs.Notes.PlayerRequest.{Press}
use Rattle.dip_letters.specs.Notes.Request.{Player}
use Rattle.dip_map.specs.Charts.{Chart}
use Rattle.dip_desk_machine.specs.Machine.{SeatName, Verdict, NotKnown, Again, OutOfTurn, Taken, seen_by}
use Rattle.dip_desk_machine.specs.View.{IsRun, Turn, author_in, replies_to, view}
use Rattle.dip_desk_state.specs.State.{Author, Nobody, TheMaster, Seat, Nothing, Pending, Votes, Delivers, Opens, Publishes, Seats, State}

-- press that was accepted
abbrev pub brings_press : Verdict → Bool
brings_press NotKnown = false
brings_press (Again text) = false
brings_press (OutOfTurn text) = false
brings_press (Taken text Nothing) = false
brings_press (Taken text (Pending orders)) = false
brings_press (Taken text (Votes vote)) = false
brings_press (Taken text (Delivers readers item)) = true
brings_press (Taken text (Opens public paper seats)) = false
brings_press (Taken text (Publishes public paper played)) = false
brings_press (Taken text (Seats seat)) = false

-- the letter's author is one of these powers, or nobody
abbrev pub is_of : (ℕ → Bool) → Author → Bool
is_of those Nobody = true
is_of those TheMaster = false
is_of those (Seat power) = those power

-- a letter in another game; or one of these powers that brings no press: orders, a vote, a look, or what was refused
abbrev pub is_aside : Chart → (ℕ → Bool) → List ℕ → Turn → Bool
is_aside m those game t =
    not (bytes_eq t.letter.note.game game) || (is_of those (author_in m t) && not (brings_press t.verdict))

-- all other turns of a history, in order
abbrev pub turns_left : Chart → (ℕ → Bool) → List ℕ → List Turn → List Turn
turns_left m those game ts = filter (λ t. not (is_aside m those game t)) ts

-- what a letter comes to twice: the master's to the same, and a power's is accepted press both times or neither
abbrev pub ComesAlike : Author → Verdict → Verdict → Type 0
ComesAlike Nobody v w = Unit {0}
ComesAlike TheMaster v w = v ≡ w
ComesAlike (Seat power) v w = brings_press v ≡ brings_press w

-- one letter of one author
pub record IsSameLetter (m : Chart) (t u : Turn) : Type 0 where
  pub letter : t.letter ≡ u.letter
  pub author : author_in m t ≡ author_in m u
  pub comes : ComesAlike (author_in m t) t.verdict u.verdict

-- one grey press of the same addressees and text, accepted both times, whose writers are two of these powers
pub record IsSameGrey (m : Chart) (those : ℕ → Bool) (t u : Turn) : Type 0 where
  pub one : ℕ
  pub other : ℕ
  pub wrote : author_in m t ≡ Seat one
  pub other_wrote : author_in m u ≡ Seat other
  pub is_one : those one ≡ true
  pub is_other : those other ≡ true
  pub game : t.letter.note.game ≡ u.letter.note.game
  pub names : List (List ℕ)
  pub text : List (List ℕ)
  pub asked : t.letter.note.command ≡ Player (Press true names text)
  pub other_asked : u.letter.note.command ≡ Player (Press true names text)
  pub accepted : brings_press t.verdict ≡ true
  pub other_accepted : brings_press u.verdict ≡ true

abbrev pub AreLikeTurns : Chart → (ℕ → Bool) → List Turn → List Turn → Type 0
AreLikeTurns m those [] [] = Unit {0}
AreLikeTurns m those [] (u ∷ us) = ⊥
AreLikeTurns m those (t ∷ ts) [] = ⊥
AreLikeTurns m those (t ∷ ts) (u ∷ us) = (IsSameLetter m t u ⊎ IsSameGrey m those t u) × AreLikeTurns m those ts us

-- two histories that differ only in what these powers order, vote, look at or have refused, in which of them wrote grey press, and in
-- other games, show each seat of the game that is none of theirs the same; and where they began alike for it, it is told the same and
-- sees the same after them
abbrev pub ThirdSeatsSeeAlike : Chart → Type 0
ThirdSeatsSeeAlike m = (those : ℕ → Bool) (seat : SeatName) (old new first last : State) (ts us : List Turn)
    → IsRun m old ts new → IsRun m first us last
    → AreLikeTurns m those (turns_left m those seat.game ts) (turns_left m those seat.game us) → those seat.power ≡ false
    → (view m seat us ≡ view m seat ts)
    × (seen_by seat first ≡ seen_by seat old
    → (replies_to m seat us ≡ replies_to m seat ts) × (seen_by seat last ≡ seen_by seat new))
