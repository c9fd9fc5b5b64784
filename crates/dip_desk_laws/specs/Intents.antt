-- A game's option INTENT: its CREATE sets it, and it stays.
use Rattle.std.specs.Prelude.{◌≡◌, ℕ, Bool, List, Option, Some}
use Rattle.dip_letters.specs.Letters.{is_on}
use Rattle.dip_letters.specs.Notes.{SeatNote}
use Rattle.dip_letters.specs.Notes.MasterRequest.{Create}
use Rattle.dip_letters.specs.Notes.Request.{Master}
use Rattle.dip_map.specs.Charts.{Chart}
use Rattle.dip_desk_state.specs.Records.{Public, Reply}
use Rattle.dip_desk_state.specs.State.{Author, Game, NewSeat, Opens, State, game_at}
use Rattle.dip_desk_machine.specs.Machine.{Decides, Step, Taken}
use Rattle.dip_desk_machine.specs.Mail.{Mail}

-- whether a game has the option
abbrev pub has_intent : Game → Bool
has_intent g = g.public.board.intent

-- a game is opened by CREATE, and has the option where that letter says YES of it
abbrev pub OpensAsAsked : Chart → Type 0
OpensAsAsked m = (s : State) (n : Mail) (who : Author) (text paper : List ℕ) (public : Public) (seats : List NewSeat)
    → Decides m s n who (Taken text (Opens public paper seats))
    → (due : ℕ) × (period : ℕ) × (grey : Bool) × (intent : Option Bool) × (notes : List SeatNote)
    × (n.note.command ≡ Master (Create due period grey intent notes)) × (public.board.intent ≡ is_on intent)

-- after each step a game that was there has the option where it had it
abbrev pub KeepsIntent : Chart → Type 0
KeepsIntent m = (old : State) (n : Mail) (r : Reply) (new : State) → Step m old n r new
    → (name : List ℕ) (g h : Game) → game_at name old ≡ Some g → game_at name new ≡ Some h → has_intent h ≡ has_intent g
