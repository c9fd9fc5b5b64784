-- Tokens, scanned from the front.
use Rattle.std.specs.Prelude.{◌≡◌, ℕ, ◌+◌, ◌==◌, ◌<◌, nat_le, List, [], ◌∷◌, ◌++◌, length, Option, None, Some, option_map, if◌then◌else◌}
use Rattle.dip_orders_lines.specs.Tokens.{is_word_byte, minus}
use Rattle.dip_orders_lines.specs.declared.words.Front.{Front}
use Rattle.dip_orders_lines.specs.declared.words.Front.TheVariants.{Token, End, Stray}

-- a word that ends here comes before the tokens after it
abbrev pub with_word : List ℕ → List (List ℕ) → List (List ℕ)
with_word [] ts = ts
with_word (b ∷ bs) ts = (b ∷ bs) ∷ ts

-- the tokens of a text after the beginning of a word
abbrev pub scan : List ℕ → List ℕ → Option (List (List ℕ))
scan w [] = Some (with_word w [])
scan w (b ∷ bs) =
    if is_word_byte b then scan (w ++ b ∷ []) bs
    else if b == 32 then option_map (λ ts. with_word w ts) (scan [] bs)
    else if b == 45 then option_map (λ ts. with_word w (minus ∷ ts)) (scan [] bs)
    else None

-- the tokens of a text
abbrev pub tokens_at : List ℕ → Option (List (List ℕ))
tokens_at text = scan [] text

-- how many letters and slashes stand at the front
abbrev pub word_length : List ℕ → ℕ
word_length [] = 0
word_length (b ∷ bs) = if is_word_byte b then 1 + word_length bs else 0

-- what stands at the front of a text
abbrev pub IsFront : List ℕ → Front → Type 0
IsFront text (Token t behind) = (tokens_at text ≡ option_map (λ ts. t.now ∷ ts) (tokens_at behind.now)) × (length behind.now < length text)
IsFront text End = tokens_at text ≡ Some []
IsFront text Stray = tokens_at text ≡ None

-- at most eight tokens
abbrev pub few : Option (List (List ℕ)) → Option (List (List ℕ))
few None = None
few (Some ts) = if nat_le (length ts) 8 then Some ts else None
