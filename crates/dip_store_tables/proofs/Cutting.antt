-- A text that is cut at the first mark.
use Rattle.std.proofs.Common.{◌≡◌, ◌≢◌, ℕ, suc, ◌<◌, ◌==◌, false, List, [], ◌∷◌, ◌++◌, length, get_or, Option, Some, None, MatchOption, IfSome, IfNone, Bor, String, string_bytes, sym, ap, ◌∙◌, append_assoc, arith}
use Rattle.std.proofs.lemmas.List.{map-append}
use Rattle.std.proofs.lemmas.Bool.Decides.{nat_tests}
use Rattle.std.proofs.lemmas.Str.Pattern.{IsSplitOnceResult, split_parts}
use Rattle.std.specs.declared.alloc.Global.{Global}
use Rattle.std.specs.Str.Pattern.{FindsTextSuffix, StripsSuffix}
use Rattle.dip_desk_state.specs.Rows as rows
use Rattle.dip_desk_state.specs.Writable.{Lacks}
use Rattle.dip_store_tables.specs.Texts.{pieces}
use Rattle.dip_store_tables.proofs.Pieces.{line_first, word_alone}

-- ---- what `split_once` gives

off_mark : (mark b : ℕ) → b ≢ mark → (b == mark) ≡ false
off_mark mark b h = grind (arith, nat_tests)

lacks_from : (mark : ℕ) (xs : List ℕ) → ((i : ℕ) → i < length xs → get_or xs i 0 ≢ mark) → Lacks mark xs
lacks_from mark [] none = tt
lacks_from mark (x ∷ xs) none = (off_mark mark x (none 0 (omega arith)), lacks_from mark xs (λ i h. none (suc i) (omega arith)))

pub split_is : (mark : ℕ) (xs : List ℕ) (r : Option (Bor (List ℕ) × Bor (List ℕ))) → IsSplitOnceResult mark xs r → mark < 128
    → IfSome r (λ p. Lacks mark p.0.now × (xs ≡ p.0.now ++ mark ∷ p.1.now)) × IfNone r (Lacks mark xs)
split_is mark xs None is ascii = (tt, lacks_from mark xs (split_parts mark xs None is ascii))
split_is mark xs (Some x) is ascii =
    let parts = split_parts mark xs (Some x) is ascii in
    ((lacks_from mark x.0.now parts.1, parts.0), tt)

-- a turn: what was found so far, and what is cut off
pub turn : (b : ℕ) (done : List (List ℕ)) (rest text piece more : List ℕ) → Lacks b piece × (rest ≡ piece ++ b ∷ more)
    → done ++ pieces b rest ≡ pieces b text → (done ++ piece ∷ []) ++ pieces b more ≡ pieces b text
turn b done rest text piece more off kept =
    append_assoc done (piece ∷ []) (pieces b more)
    ∙ ap (λ ps. done ++ ps) (sym (ap (pieces b) off.1 ∙ line_first b piece more off.0)) ∙ kept

-- the piece after the last mark
pub last : (b : ℕ) (rest : List ℕ) → Lacks b rest → 0 < length rest → pieces b rest ≡ rest ∷ []
last b [] lacks low = absurd (omega (arith, low))
last b (x ∷ xs) lacks low = word_alone b (x ∷ xs) lacks

-- a text more in a list
pub lines_grown : (old : List (String Global)) (x : String Global) (new : List (String Global)) (text : List ℕ)
    → new ≡ old ++ x ∷ [] → string_bytes x ≡ text → rows.lines new ≡ rows.lines old ++ text ∷ []
lines_grown old x new text grown said =
    ap rows.lines grown ∙ map-append string_bytes old (x ∷ []) ∙ ap (λ t. rows.lines old ++ t ∷ []) said

-- ---- what `strip_suffix` gives

pub suffix_is : (p s : List ℕ) (r : Option (Bor (List ℕ))) → MatchOption r (FindsTextSuffix p s None) (λ x. StripsSuffix (FindsTextSuffix p) s x.now)
    → IfSome r (λ t. s ≡ t.now ++ p) × IfNone r ((t : List ℕ) → s ≡ t ++ p → ⊥)
suffix_is p s None is = (tt, is)
suffix_is p s (Some x) is = (is.1.1 ∙ ap (λ t. t ++ p) (sym is.2), tt)
