-- Columns that were written of records of a map.
use Rattle.std.specs.Prelude.{◌≡◌, ◌<◌, ℕ, List, ◌++◌, ◌∷◌, [], codes, length, map}
use Rattle.std.specs.List.{AllByRecursion}
use Rattle.dip_map.specs.Charts.{Chart}
use Rattle.dip_store_tables.specs.Boards.{power_name}
use Rattle.dip_desk_state.specs.Writable.{Lacks, IsStatusOf}
use Rattle.dip_desk_state.specs.Records.{Status, Running, Paused, Closed, Ended, Won, Drawn}
use Rattle.dip_desk_state.specs.Texts.{status_text}

-- the words of a status of the map
abbrev pub IsStatusText : Chart → List ℕ → Type 0
IsStatusText m text = (s : Status) × IsStatusOf m s × (text ≡ status_text m s)

-- the first word of a status, and the names of the powers that it tells of
abbrev pub word_of : Status → List ℕ
word_of Running = codes "running"
word_of Paused = codes "paused"
word_of Closed = codes "closed"
word_of Ended = codes "ended"
word_of (Won power) = codes "won"
word_of (Drawn powers) = codes "drawn"

abbrev pub names_of : Chart → Status → List (List ℕ)
names_of m Running = []
names_of m Paused = []
names_of m Closed = []
names_of m Ended = []
names_of m (Won power) = power_name m power ∷ []
names_of m (Drawn powers) = map (power_name m) powers

-- a status of the map is told by that word and these names
abbrev pub IsToldBy : Chart → List ℕ → List (List ℕ) → Type 0
IsToldBy m word names = (s : Status) × IsStatusOf m s × (word ≡ word_of s) × (names ≡ names_of m s)

-- names of powers of the map
abbrev pub ArePowers : Chart → List (List ℕ) → Type 0
ArePowers m names = AllByRecursion (λ n. (p : ℕ) × (p < length m.realms) × (n ≡ power_name m p)) names

-- a reply as it is printed: a line, then its lines, and END
abbrev pub IsPrinted : List ℕ → Type 0
IsPrinted text = (head : List ℕ) × (lines : List ℕ) × Lacks 10 head × (text ≡ head ++ 10 ∷ (lines ++ codes "END\n"))
