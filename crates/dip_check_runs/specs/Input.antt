-- An input that is read piece by piece: what was read of it, what of that was used, and what is ahead.
use Rattle.std.specs.Prelude.{◌≡◌, ◌≢◌, ◌≤◌, ◌<◌, ◌⊎◌, ◌++◌, ℕ, Bool, false, true, List, [], ◌∷◌, Option, length, slice_index, take}
use Rattle.std.specs.List.{AllByRecursion}
use Rattle.std.specs.Io.KnownBytes.{Consumes, IsAtEnd}
use Rattle.dip_check_papers.specs.PaperTexts.{AreInner, HasNoEnd, end_line, text_of}
use Rattle.dip_check_runs.specs.declared.input.Ahead.{Ahead}

-- bytes that are nothing but empty lines
abbrev pub AreEmptyLines : List ℕ → Type 0
AreEmptyLines bytes = AllByRecursion (λ b. b ≡ 10) bytes

-- after all empty lines that the bytes begin with
abbrev pub IsAfterLines : List ℕ → List ℕ → Type 0
IsAfterLines bytes rest = (lines : List ℕ) × AreEmptyLines lines × (bytes ≡ lines ++ rest) × (slice_index rest 0 ≢ 10)

-- bytes are lines of which the last one, and no other, is `END`
pub record EndsOnce (bytes : List ℕ) : Type 0 where
  pub inner : List (List ℕ)
  pub lines : AreInner inner
  pub is : bytes ≡ text_of inner ++ end_line

-- at the end of an input an LF is put after it, which its last line may lack
abbrev pub closing : Bool → List ℕ
closing true = 10 ∷ []
closing false = []

-- of an input that was known so far these bytes are used, and those ahead were read besides
pub record IsRead (known left : Option (List ℕ)) (used : List ℕ) (ahead : Ahead) : Type 0 where
  pub read : List ℕ
  pub consumed : Consumes known left read
  pub parts : read ++ closing ahead.ended ≡ used ++ ahead.bytes.items
  pub end : ahead.ended ≡ true → IsAtEnd left

-- the input has ended, or there is more ahead
abbrev pub IsNearer : Ahead → Ahead → Type 0
IsNearer old new = (new.ended ≡ true) ⊎ (length old.bytes.items < length new.bytes.items)

-- so many bytes ahead end with the first line `END`; or they are all that is left of an input that has ended, and have no such line
abbrev pub IsFront : Ahead → ℕ → Type 0
IsFront ahead size = (size ≤ length ahead.bytes.items)
    × (EndsOnce (take size ahead.bytes.items) ⊎ (HasNoEnd (take size ahead.bytes.items) × (ahead.ended ≡ true) × (size ≡ length ahead.bytes.items)))

-- more bytes than a paper may have are ahead, and no line `END` is among them
abbrev pub IsTooMuch : Ahead → Type 0
IsTooMuch ahead = (1048576 < length ahead.bytes.items) × HasNoEnd ahead.bytes.items

-- these bytes end with the first line `END`; or they have none, the input has ended and nothing is ahead
abbrev pub IsTakenFront : List ℕ → Ahead → Type 0
IsTakenFront front ahead = EndsOnce front ⊎ (HasNoEnd front × (ahead.ended ≡ true) × (ahead.bytes.items ≡ []))

-- an input was read, up to its end or not, of which these bytes are used; at its end an LF is put after it
pub record HasUsed (known left : Option (List ℕ)) (used : List ℕ) : Type 0 where
  pub input : List ℕ
  pub consumed : Consumes known left input
  pub ended : Bool
  pub end : ended ≡ true → IsAtEnd left
  pub rest : List ℕ
  pub parts : input ++ closing ended ≡ used ++ rest

-- the whole input was read, and all of it is used with an LF after it
pub record HasUsedAll (known left : Option (List ℕ)) (used : List ℕ) : Type 0 where
  pub input : List ℕ
  pub consumed : Consumes known left input
  pub end : IsAtEnd left
  pub parts : input ++ 10 ∷ [] ≡ used
