-- What the title of a paper tells of it.
use Rattle.std.specs.Prelude.{◌≡◌, ◌&&◌, ℕ, Bool, false, List, [], ◌∷◌, drop, length, nat_le}
use Rattle.std.specs.Fmt.{decimal}
use Rattle.dip_map.specs.Charts.{Chart}
use Rattle.dip_desk_machine.specs.Machine.{Decides, Taken}
use Rattle.dip_desk_machine.specs.Mail.{Mail}
use Rattle.dip_desk_state.specs.Records.{Public}
use Rattle.dip_desk_state.specs.State.{Author, Publishes, State}

-- whether a text begins with a capital
abbrev pub is_capital : List ℕ → Bool
is_capital [] = false
is_capital (b ∷ bs) = nat_le 65 b && nat_le b 90

-- whether the word after PAPER and the paper's number is the name of a phase: that alone begins with a capital
abbrev pub names_phase : ℕ → List ℕ → Bool
names_phase number paper = is_capital (drop 1 (drop (length (decimal number)) (drop 6 paper)))

-- the title of each paper tells whether a phase was played
abbrev pub TitlesTell : Chart → Type 0
TitlesTell m = (s : State) (n : Mail) (who : Author) (text : List ℕ) (public : Public) (paper : List ℕ) (played : Bool)
    → Decides m s n who (Taken text (Publishes public paper played)) → names_phase public.papers paper ≡ played
