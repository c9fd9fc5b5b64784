-- What the columns of a row have: a value of its kind each.
use Rattle.std.specs.Prelude.{◌≡◌, ℕ, pos, ◌<◌, ◌^◌, List, length}
use Rattle.std.specs.Str.{IsUtf8}
use Rattle.sqlite.specs.declared.types.Value.TheVariants.{Int, Text as Words, Blob as Bytes}
use Rattle.sqlite.specs.Order.{Row, column}

-- the column has a text of characters
pub record HasText (r : Row) (at : ℕ) : Type 0 where
  pub there : at < length r
  pub text : List ℕ
  pub is : column r at ≡ Words text
  pub utf8 : IsUtf8 text

-- a number of 32 bits
pub record HasNumber (r : Row) (at : ℕ) : Type 0 where
  pub there : at < length r
  pub number : ℕ
  pub is : column r at ≡ Int (pos number)
  pub low : number < 2 ^ 32

-- a number from 0 on
pub record HasTick (r : Row) (at : ℕ) : Type 0 where
  pub there : at < length r
  pub number : ℕ
  pub is : column r at ≡ Int (pos number)

-- 32 bytes
pub record HasDigest (r : Row) (at : ℕ) : Type 0 where
  pub there : at < length r
  pub all : List ℕ
  pub is : column r at ≡ Bytes all
  pub length_is : length all ≡ 32
