-- Rows that are numbered from 1: the papers of a game, and the items of an inbox.
use Rattle.std.specs.Prelude.{◌≡◌, ℕ, zero, suc, List, [], ◌∷◌, ◌++◌, map, filter}
use Rattle.std.specs.List.{AllByRecursion}
use Rattle.dip_store_rows.specs.Tables.{BoxRow, PaperRow, Tables, is_box, is_paper_in}

-- the numbers from 1 to this one
abbrev pub counted : ℕ → List ℕ
counted zero = []
counted (suc n) = counted n ++ suc n ∷ []

abbrev pub paper_numbers : List PaperRow → List ℕ → List ℕ
paper_numbers papers name = map (λ p. p.number) (filter (is_paper_in name) papers)

abbrev pub item_numbers : List BoxRow → List ℕ → List ℕ → List ℕ
item_numbers boxes name power = map (λ b. b.number) (filter (is_box name power) boxes)

-- each game's papers have the numbers from 1 to their count, in this order, and so have each seat's items
pub record AreCounted (t : Tables) : Type 0 where
  pub papers : AllByRecursion (λ g. paper_numbers t.papers g.name ≡ counted g.papers) t.games
  pub items : AllByRecursion (λ s. item_numbers t.boxes s.game s.power ≡ counted s.items) t.seats
