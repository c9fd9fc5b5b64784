-- What is asked of the desk, found in the tables.
use Rattle.std.specs.Prelude.{◌≡◌, ◌<◌, ◌≤◌, ◌+◌, ◌==◌, ◌&&◌, nat_le, nat_lt, ℕ, Bool, List, length, map, filter, option_map}
use Rattle.std.specs.List.{find}
use Rattle.dip_map.specs.Charts.{Chart}
use Rattle.dip_store_tables.specs.Boards.{power_name}
use Rattle.dip_desk_state.specs.State.{own_at, page_of, paper_numbered, public_at}
use Rattle.dip_store_tables.specs.Coding.{AreCoded}
use Rattle.dip_store_tables.specs.Counting.{counted, item_numbers, paper_numbers}
use Rattle.dip_store_tables.specs.Reading.{game_of, item_of, own_of, part_of, public_of, state_of}
use Rattle.dip_store_rows.specs.Tables.{GameRow, SeatRow, Tables, is_box, is_named, is_paper_in, is_seat}

-- the public part of a game is what the first row of its name says
abbrev pub PublicIsFound : Chart → Type 0
PublicIsFound m = (t : Tables) (name : List ℕ) → public_at name (state_of m t) ≡ option_map (public_of m t.units t.centres t.choices) (find (is_named name) t.games)

-- a seat's own part is what the first row of its game and its power's name says
abbrev pub OwnIsFound : Chart → Type 0
OwnIsFound m = (t : Tables) (name : List ℕ) (power : ℕ) → AreCoded m t → power < length m.realms
    → own_at name power (state_of m t) ≡ option_map (own_of m t.pending t.ballots) (find (is_seat name (power_name m power)) t.seats)

-- whether a number is one of so many from a first on
abbrev pub is_within : ℕ → ℕ → ℕ → Bool
is_within first most n = nat_le first n && nat_lt n (first + most)

-- of a seat with a counted inbox, a page is the rows whose numbers are within it
abbrev pub PageIsFound : Chart → Type 0
PageIsFound m = (t : Tables) (s : SeatRow) (first most : ℕ) → item_numbers t.boxes s.game s.power ≡ counted s.items → 1 ≤ first
    → page_of first most (part_of m t s).box ≡ map item_of (filter (λ b. is_within first most b.number) (filter (is_box s.game s.power) t.boxes))

-- a paper of a game with counted papers is the first row of its number
abbrev pub PaperIsFound : Chart → Type 0
PaperIsFound m = (t : Tables) (g : GameRow) (n : ℕ) → paper_numbers t.papers g.name ≡ counted g.papers
    → paper_numbered n (game_of m t g).papers ≡ option_map (λ p. p.body) (find (λ p. p.number == n) (filter (is_paper_in g.name) t.papers))
