-- The parts of a text that is to be a paper: its lines, its game line, and the words of that.
use Rattle.std.specs.Prelude.{ℕ, ◌==◌, Bool, false, List, [], ◌∷◌, ◌++◌, Option, None, Some, codes, slice_get, option_to_list, if◌then◌else◌}
use Rattle.std.specs.List.{slice_split, starts_with}
use Rattle.std.specs.Str.{bytes_eq}
use Rattle.dip_letters.specs.Reading.{after_name}

-- what stands between the LFs of a text
abbrev pub lines_in : List ℕ → List (List ℕ)
lines_in text = slice_split (λ b. b == 10) text

-- what stands between the spaces of a line
abbrev pub words_in : List ℕ → List (List ℕ)
words_in line = slice_split (λ b. b == 32) line

-- a line that begins as a game line does
abbrev pub is_game_line : List ℕ → Bool
is_game_line line = starts_with (λ a b. a == b) line (codes "GAME ")

-- the first of these lines that begins as a game line does, or nothing
abbrev pub game_line_in : List (List ℕ) → List ℕ
game_line_in [] = []
game_line_in (l ∷ ls) = if is_game_line l then l else game_line_in ls

-- what the lines before the game line say after their marks; one that has no mark is left out
abbrev pub told_in : List (List ℕ) → List (List ℕ)
told_in [] = []
told_in (l ∷ ls) = if is_game_line l then [] else option_to_list (after_name (codes "> ") l) ++ told_in ls

-- the word after the first one that is this
abbrev pub word_after : List ℕ → List (List ℕ) → Option (List ℕ)
word_after name [] = None
word_after name (w ∷ ws) = if bytes_eq w name then slice_get ws 0 else word_after name ws

-- whether it is YES
abbrev pub is_yes : Option (List ℕ) → Bool
is_yes None = false
is_yes (Some word) = bytes_eq word (codes "YES")
