-- A letter that comes twice acts once.
use Rattle.std.specs.Prelude.{◌≡◌, ◌≢◌, ◌&&◌, Bool, true, false, List, bytes_eq}
use Rattle.std.specs.List.{AllByRecursion}
use Rattle.dip_map.specs.Charts.{Chart}
use Rattle.dip_desk_state.specs.Records.{Reply}
use Rattle.dip_desk_machine.specs.Machine.{Step, author}
use Rattle.dip_desk_machine.specs.Mail.{Mail}
use Rattle.dip_desk_state.specs.State.{Author, Nobody, Seat, State, TheMaster, is_seat}
use Rattle.dip_desk_machine.specs.View.{IsRun, Turn, author_in}

-- a letter that comes again at once gets its old reply, and changes nothing
abbrev pub ActsOnce : Chart → Type 0
ActsOnce m = (old mid new : State) (n : Mail) (first again : Reply) → Step m old n first mid → Step m mid n again new → (again ≡ first) × (new ≡ mid)

-- whether another letter has the same author: the master, or the same seat of the same game
abbrev pub is_master : Author → Bool
is_master Nobody = false
is_master TheMaster = true
is_master (Seat power) = false

abbrev pub has_author : Mail → Author → Mail → Author → Bool
has_author n Nobody other who = false
has_author n TheMaster other who = is_master who
has_author n (Seat power) other who = bytes_eq other.note.game n.note.game && is_seat who power

-- none of these letters has the author of this one
abbrev pub AreOthers : Chart → Mail → Author → List Turn → Type 0
AreOthers m n who ts = AllByRecursion (λ t. has_author n who t.letter (author_in m t) ≡ false) ts

-- a letter that comes again after other authors' letters gets its old reply, and changes nothing, as long as it has its author: REPLACE gives a seat
-- another secret
abbrev pub ActsOnceLater : Chart → Type 0
ActsOnceLater m = (old mid late new : State) (n : Mail) (first again : Reply) (between : List Turn) → author m n old ≢ Nobody → Step m old n first mid
    → IsRun m mid between late → AreOthers m n (author m n old) between → author m n late ≡ author m n old
    → Step m late n again new → (again ≡ first) × (new ≡ late)
