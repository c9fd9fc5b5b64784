-- Which place of the service a path names.
use Rattle.std.specs.Prelude.{◌==◌, ◌||◌, not, ℕ, List, [], ◌∷◌, Bool, true, false, if◌then◌else◌, Option, Some, None, option_and_then, codes}

-- the places of the service
pub data Place : Type 0 where
  letters : Place
  game : List ℕ → Place
  paper : List ℕ → List ℕ → Place

-- what stands after a beginning
abbrev pub after : List ℕ → List ℕ → Option (List ℕ)
after [] text = Some text
after (b ∷ bs) [] = None
after (b ∷ bs) (c ∷ text) = if b == c then after bs text else None

-- what is before the first slash
abbrev pub segment : List ℕ → List ℕ
segment [] = []
segment (b ∷ bs) = if b == 47 then [] else b ∷ segment bs

-- the first slash and what is after it
abbrev pub from_slash : List ℕ → List ℕ
from_slash [] = []
from_slash (b ∷ bs) = if b == 47 then b ∷ bs else from_slash bs

abbrev pub is_empty : List ℕ → Bool
is_empty [] = true
is_empty (b ∷ bs) = false

-- a number's text after `/papers/`
abbrev pub paper_place : List ℕ → List ℕ → Option Place
paper_place name number = if is_empty number || not (is_empty (from_slash number)) then None else Some (paper name number)

-- a game's name, with or without more after it
abbrev pub game_place : List ℕ → List ℕ → Option Place
game_place name [] = if is_empty name then None else Some (game name)
game_place name (b ∷ bs) = if is_empty name then None else option_and_then (paper_place name) (after (codes "/papers/") (b ∷ bs))

abbrev pub games_place : List ℕ → Option Place
games_place text = game_place (segment text) (from_slash text)

-- nothing after `/letters`
abbrev pub letters_place : List ℕ → Option Place
letters_place [] = Some letters
letters_place (b ∷ bs) = None

abbrev pub or_place : Option Place → Option Place → Option Place
or_place None other = other
or_place (Some place) other = Some place

-- the place that a path names: `/letters`, `/games/NAME` or `/games/NAME/papers/NUMBER`
abbrev pub place_of : List ℕ → Option Place
place_of path = or_place (option_and_then letters_place (after (codes "/letters") path)) (option_and_then games_place (after (codes "/games/") path))
