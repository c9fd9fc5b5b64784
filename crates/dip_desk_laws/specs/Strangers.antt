-- Whose letters are nobody's.
use Rattle.std.specs.Prelude.{◌≡◌, ◌⊎◌, ◌↔◌, Bool, true, false, None}
use Rattle.dip_letters.specs.Notes.{Request}
use Rattle.dip_letters.specs.Notes.MasterRequest.{Create, Tick, Replace, Notify}
use Rattle.dip_letters.specs.Notes.Request.{Player, Master}
use Rattle.dip_map.specs.Charts.{Chart}
use Rattle.dip_desk_state.specs.Records.{Reply}
use Rattle.dip_desk_machine.specs.Machine.{Step, author}
use Rattle.dip_desk_machine.specs.Mail.{Mail}
use Rattle.dip_desk_state.specs.State.{State, Nobody, TheMaster, game_at}

abbrev pub is_create : Request → Bool
is_create (Player command) = false
is_create (Master (Create due period grey intent seats)) = true
is_create (Master (Tick tick)) = false
is_create (Master (Replace seat)) = false
is_create (Master (Notify notice)) = false

-- nobody's letter: it has no author, or it is the master's, isn't CREATE, and names no game
abbrev pub IsNobodys : Chart → Mail → State → Type 0
IsNobodys m n s = (author m n s ≡ Nobody)
    ⊎ ((author m n s ≡ TheMaster) × (is_create n.note.command ≡ false) × (game_at n.note.game s ≡ None))

-- a reply is to nobody exactly where the letter is nobody's
abbrev pub IsToNobodyExactly : Chart → Type 0
IsToNobodyExactly m = (old : State) (n : Mail) (r : Reply) (new : State) → Step m old n r new → (r.head ≡ None) ↔ IsNobodys m n old
