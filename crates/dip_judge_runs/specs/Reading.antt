-- What is read of a reader.
use Rattle.std.specs.Prelude.{◌≤◌, ◌<◌, ℕ, List, Option, IfSome, codes, length}
use Rattle.std.specs.Io.KnownBytes.{Consumes, IsAtEnd}
use Rattle.dip_judge_runs.specs.declared.reading.ReadFault.{ReadFault}
use Rattle.dip_judge_runs.specs.declared.reading.ReadFault.TheVariants.{Memory, Read, TooLong}

-- a fault's name
abbrev pub read_name : ReadFault → List ℕ
read_name Read = codes "Read"
read_name TooLong = codes "TooLong"
read_name Memory = codes "Memory"

-- the reader gave the whole input, which has at most so many bytes, and nothing is left
pub record IsReadWithin (limit : ℕ) (before after : Option (List ℕ)) (input : List ℕ) : Type 0 where
  pub read : Consumes before after input
  pub end : IsAtEnd after
  pub most : length input ≤ limit

-- the reader has more than so many bytes, where it is known what it has
abbrev pub IsLonger : ℕ → Option (List ℕ) → Type 0
IsLonger limit known = IfSome known (λ input. limit < length input)
