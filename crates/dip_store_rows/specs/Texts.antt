-- Columns that are texts.
use Rattle.std.specs.Prelude.{ℕ, List}
use Rattle.std.specs.Str.{IsUtf8}

-- bytes that are a text of characters
pub record IsText (text : List ℕ) : Type 0 where
  pub utf8 : IsUtf8 text
