-- What the tokens of a line are.
use Rattle.std.specs.Prelude.{◌≡◌, ℕ, ◌==◌, ◌||◌, ◌&&◌, ◌≤◌, nat_le, Bool, true, ◌⊎◌, List, [], ◌∷◌, ◌++◌, length, map, replicate}
use Rattle.std.specs.List.{list_all}
use Rattle.std.specs.Char.{is_ascii_alphabetic}

-- a letter or a slash
abbrev pub is_word_byte : ℕ → Bool
is_word_byte b = is_ascii_alphabetic b || (b == 47)

-- one or more letters and slashes
abbrev pub is_word : List ℕ → Bool
is_word t = nat_le 1 (length t) && list_all is_word_byte t

-- the token of a minus sign
abbrev pub minus : List ℕ
minus = 45 ∷ []

-- a token: a word or a minus sign
abbrev pub IsToken : List ℕ → Type 0
IsToken t = (is_word t ≡ true) ⊎ (t ≡ minus)

-- a token and how many spaces stand before it
pub record Piece : Type 0 where
  pub gap : ℕ
  pub token : List ℕ

-- the text of these pieces, with so many spaces after the last
abbrev pub spelling_of : List Piece → ℕ → List ℕ
spelling_of [] trail = replicate trail 32
spelling_of (p ∷ ps) trail = replicate p.gap 32 ++ (p.token ++ spelling_of ps trail)

-- a space parts two words
abbrev pub IsParted : List ℕ → List Piece → Type 0
IsParted t [] = Unit {0}
IsParted t (p ∷ ps) = is_word t ≡ true → is_word p.token ≡ true → 1 ≤ p.gap

-- each piece has a token, and a space parts it from the next where both are words
abbrev pub ArePieces : List Piece → Type 0
ArePieces [] = Unit {0}
ArePieces (p ∷ ps) = IsToken p.token × (IsParted p.token ps × ArePieces ps)

-- the line is these tokens in this order
pub record Spells (line : List ℕ) (tokens : List (List ℕ)) : Type 0 where
  pub pieces : List Piece
  pub trail : ℕ
  pub well_formed : ArePieces pieces
  pub text : line ≡ spelling_of pieces trail
  pub same : map (λ p. p.token) pieces ≡ tokens
