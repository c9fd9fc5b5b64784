-- Where two texts differ.
use Rattle.std.specs.Prelude.{ℕ, ◌+◌, List, [], ◌∷◌, if◌then◌else◌}
use Rattle.std.specs.Str.{bytes_eq}
use Rattle.dip_check_papers.specs.Parts.{lines_in}

-- how many lines two texts have alike at the front
abbrev pub alike : List (List ℕ) → List (List ℕ) → ℕ
alike [] others = 0
alike (l ∷ ls) [] = 0
alike (l ∷ ls) (k ∷ ks) = if bytes_eq l k then alike ls ks + 1 else 0

-- the first line, counted from 1, in which a text differs from another one
abbrev pub first_other : List ℕ → List ℕ → ℕ
first_other text other = alike (lines_in text) (lines_in other) + 1
