-- What may not be there, and what is made of it.
use Rattle.std.specs.Prelude.{Option, Some, None}

-- what is made of what is there, or nothing
infixl 10 ◌>>=◌
abbrev pub ◌>>=◌ : {A B : Type 0} → Option A → (A → Option B) → Option B
None >>= f = None
(Some x) >>= f = f x
