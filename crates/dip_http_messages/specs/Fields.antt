-- The fields of one name in a head, and what is asked of Host.
use Rattle.std.specs.Prelude.{ℕ, List, [], ◌∷◌, Bool, true, false, ◌==◌, if◌then◌else◌}
use Rattle.std.specs.Str.{str_eq_ignore_ascii_case}

-- the values of the fields of this name, whose case is free
abbrev pub values_of : List ℕ → List (List ℕ × List ℕ) → List (List ℕ)
values_of name [] = []
values_of name (f ∷ fs) = if str_eq_ignore_ascii_case f.0 name then f.1 ∷ values_of name fs else values_of name fs

-- no value, one or more
pub data Found : Type 0 where
  never : Found
  once : List ℕ → Found
  often : Found

abbrev pub found_of : List (List ℕ) → Found
found_of [] = never
found_of (v ∷ []) = once v
found_of (v ∷ w ∷ vs) = often

-- the field of this name
abbrev pub field_of : List ℕ → List (List ℕ × List ℕ) → Found
field_of name fields = found_of (values_of name fields)

-- with one value more
abbrev pub found_more : Found → List ℕ → Found
found_more never v = once v
found_more (once w) v = often
found_more often v = often

-- there is such a field
abbrev pub is_there : Found → Bool
is_there never = false
is_there (once v) = true
is_there often = true

-- HTTP/1.1 wants exactly one Host, HTTP/1.0 doesn't care
abbrev pub has_host : ℕ → Found → Bool
has_host minor (once v) = true
has_host minor never = minor == 0
has_host minor often = minor == 0
