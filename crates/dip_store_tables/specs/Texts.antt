-- Words and lines in one text.
use Rattle.std.specs.Prelude.{ℕ, ◌==◌, List, [], ◌∷◌, ◌++◌, flat_map, if◌then◌else◌}

-- words with a byte between two of them
abbrev pub joined : ℕ → List (List ℕ) → List ℕ
joined b [] = []
joined b (w ∷ ws) = w ++ flat_map (λ v. b ∷ v) ws

-- lines, each with a byte after it
abbrev pub ended : ℕ → List (List ℕ) → List ℕ
ended b ls = flat_map (λ l. l ++ b ∷ []) ls

-- one byte more in the first piece
abbrev pub longer : ℕ → List (List ℕ) → List (List ℕ)
longer x [] = (x ∷ []) ∷ []
longer x (w ∷ ws) = (x ∷ w) ∷ ws

-- what stands before each such byte, and what stands after the last, if anything does
abbrev pub pieces : ℕ → List ℕ → List (List ℕ)
pieces b [] = []
pieces b (x ∷ xs) = if x == b then [] ∷ pieces b xs else longer x (pieces b xs)

-- what stands after the first such byte
abbrev pub behind : ℕ → List ℕ → List ℕ
behind b [] = []
behind b (x ∷ xs) = if x == b then xs else behind b xs
