-- The number of a paper, as a path has it.
use Rattle.std.specs.Prelude.{◌≡◌, ◌≢◌, ◌^◌, ◌<◌, ℕ, List, Option, Some, None}
use Rattle.std.specs.Fmt.{decimal}

-- the number of 32 bits that is printed as the text; none where there is none
abbrev pub IsNumber : List ℕ → Option ℕ → Type 0
IsNumber text None = (n : ℕ) → n < 2 ^ 32 → decimal n ≢ text
IsNumber text (Some n) = (decimal n ≡ text) × (n < 2 ^ 32)
