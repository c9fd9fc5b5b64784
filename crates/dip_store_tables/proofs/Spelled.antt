-- Which bytes are a text of characters.
use Rattle.std.proofs.Common.{◌≡◌, ℕ, zero, suc, ◌<◌, ◌+◌, ◌/◌, ◌%◌, ◌==◌, Bool, true, false, cond, nat_lt, List, [], ◌∷◌, ◌++◌, arith}
use Rattle.std.specs.Char.{is_ascii_lowercase}
use Rattle.std.specs.Fmt.{decimal, digits, digits_onto, digit_glyph}
use Rattle.std.specs.List.{AllByRecursion, flat_map, list_all}
use Rattle.std.specs.Str.{IsAscii}
use Rattle.std.proofs.lemmas.Bool.{and_parts}
use Rattle.std.proofs.lemmas.Bool.Decides.{nat_tests}
use Rattle.std.proofs.lemmas.Str.{IsUtf8-append, IsUtf8-from_ascii, IsUtf8-nil}
use Rattle.std.proofs.lemmas.Str.Ascii.{IsAscii-nil}
use Rattle.dip_store_tables.specs.Texts.{joined, ended}
use Rattle.dip_store_tables.specs.Legible.{IsText}

pub none : IsText []
none = record { utf8 = IsUtf8-nil }

pub both : {v w : List ℕ} → IsText v → IsText w → IsText (v ++ w)
both {v} {w} one other = record { utf8 = IsUtf8-append v w one.utf8 other.utf8 }

-- bytes of ASCII
abbrev pub AreSmall : List ℕ → Type 0
AreSmall w = AllByRecursion (λ b. b < 128) w

small_ascii : (w : List ℕ) → AreSmall w → IsAscii w
small_ascii [] all i = IsAscii-nil i
small_ascii (x ∷ w) all zero = all.0
small_ascii (x ∷ w) all (suc i) = small_ascii w all.1 i

pub small : (w : List ℕ) → AreSmall w → IsText w
small w all = record { utf8 = IsUtf8-from_ascii w (small_ascii w all) }

tested : (w : List ℕ) → list_all (λ b. nat_lt b 128) w ≡ true → AreSmall w
tested [] all = tt
tested (x ∷ w) all = let parts = and_parts _ _ all in (below x parts.0, tested w parts.1)
  where
    below : (b : ℕ) → nat_lt b 128 ≡ true → b < 128
    below b low = grind (arith, nat_tests)

-- a text that is written out
pub plain : (w : List ℕ) → list_all (λ b. nat_lt b 128) w ≡ true → IsText w
plain w all = small w (tested w all)

letter : (b : ℕ) → is_ascii_lowercase b ≡ true → b < 128
letter b low = grind (arith, nat_tests)

letters_small : (w : List ℕ) → list_all is_ascii_lowercase w ≡ true → AreSmall w
letters_small [] all = tt
letters_small (x ∷ w) all = let parts = and_parts _ _ all in (letter x parts.0, letters_small w parts.1)

pub letters : (w : List ℕ) → list_all is_ascii_lowercase w ≡ true → IsText w
letters w all = small w (letters_small w all)

-- digits
glyph_small : (d : ℕ) → d < 10 → digit_glyph false d < 128
glyph_small d low = either (nat_lt d 10)
  where
    either : (b : Bool) → cond b (48 + d) (87 + d) < 128
    either true = omega (arith, low)
    either false = omega (arith, low)

digits_small : (k n : ℕ) (acc : List ℕ) → AreSmall acc → AreSmall (digits_onto k 10 false n acc)
digits_small zero n acc all = all
digits_small (suc k) n acc all =
    let low : n % 10 < 10 = omega arith in
    let more : AreSmall (digit_glyph false (n % 10) ∷ acc) = (glyph_small (n % 10) low, all) in
    either (n / 10 == 0) _ _ more (digits_small k (n / 10) (digit_glyph false (n % 10) ∷ acc) more)
  where
    either : (b : Bool) (xs ys : List ℕ) → AreSmall xs → AreSmall ys → AreSmall (cond b xs ys)
    either true xs ys first second = first
    either false xs ys first second = second

digits_text : (n : ℕ) → AreSmall (decimal n)
unfolding digits
digits_text n = digits_small 64 n [] tt

pub number : (n : ℕ) → IsText (decimal n)
number n = small (decimal n) (digits_text n)

-- many in one
pub each : {A : Type 0} (P : A → Type 0) (f : A → List ℕ) → ((x : A) → P x → IsText (f x)) → (xs : List A) → AllByRecursion P xs → IsText (flat_map f xs)
each P f turn [] all = none
each P f turn (x ∷ xs) all = both (turn x all.0) (each P f turn xs all.1)

pub words : (b : ℕ) → b < 128 → (ws : List (List ℕ)) → AllByRecursion IsText ws → IsText (joined b ws)
words b low [] all = none
words b low (w ∷ ws) all = both all.0 (each IsText (λ v. b ∷ v) (λ v it. both (small (b ∷ []) (low, tt)) it) ws all.1)

pub lines : (b : ℕ) → b < 128 → (ls : List (List ℕ)) → AllByRecursion IsText ls → IsText (ended b ls)
lines b low ls all = each IsText (λ l. l ++ b ∷ []) (λ l it. both it (small (b ∷ []) (low, tt))) ls all
