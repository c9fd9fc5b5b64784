-- Rows that are numbered from 1: the papers of a game, and the items of an inbox.
use Rattle.std.specs.Prelude.{◌≡◌, ◌≤◌, ℕ, zero, suc, ◌+◌, true, List, [], ◌∷◌, ◌++◌, map, filter}
use Rattle.std.specs.List.{AllByRecursion}
use Rattle.dip_desk_state.specs.Bounds.{most_papers}
use Rattle.dip_desk_state.specs.State.{Effect, Nothing, Pending, Votes, Delivers, Opens, Publishes, Seats}
use Rattle.dip_store_rows.specs.Tables.{GameRow, BoxRow, PaperRow, Tables, is_named, is_box, is_paper_in}
pub use Rattle.dip_store_rows.specs.Counted.{AreCounted, counted, item_numbers, paper_numbers}

-- the next number of a game's papers, which is no more than a game has
abbrev pub IsNextPaper : ℕ → GameRow → Type 0
IsNextPaper n g = (n ≡ g.papers + 1) × (n ≤ most_papers)

-- a paper that an effect makes has the next number of its game
abbrev pub CountsOn : List ℕ → Effect → List GameRow → Type 0
CountsOn name Nothing games = Unit {0}
CountsOn name (Pending orders) games = Unit {0}
CountsOn name (Votes vote) games = Unit {0}
CountsOn name (Delivers readers item) games = Unit {0}
CountsOn name (Opens public paper seats) games = public.papers ≡ 1
CountsOn name (Publishes public paper played) games = AllByRecursion (λ g. is_named name g ≡ true → IsNextPaper public.papers g) games
CountsOn name (Seats seat) games = Unit {0}
