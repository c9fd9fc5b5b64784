-- The words of a status.
use Rattle.std.proofs.Common.{◌≡◌, ℕ, zero, suc, ◌<◌, true, false, bytes_eq, List, [], ◌∷◌, length, get_or, drop, map, codes, Some, None, String, string_bytes, refl, sym, ap, subst, ◌∙◌, arith}
use Rattle.std.specs.List.{AllByRecursion}
use Rattle.std.specs.declared.alloc.Global.{Global}
use Rattle.std.proofs.lemmas.List.{get_or-map, length-map}
use Rattle.std.proofs.lemmas.Slice.Eq.{bytes_eq-Decides}
use Rattle.dip_map.specs.Charts.{Chart, IsMap, power_of}
use Rattle.dip_store_tables.specs.Boards.{power_name}
use Rattle.dip_desk_state.specs.Records.{Status, Running, Paused, Closed, Ended, Won, Drawn}
use Rattle.dip_desk_state.specs.Rows as rows
use Rattle.dip_store_tables.specs.Reading.{status_from, status_in, status_of}
use Rattle.dip_store_tables.specs.Texts.{pieces}
use Rattle.dip_store_tables.proofs.Pieces.{joined_back}
use Rattle.dip_store_tables.proofs.Records.{status_words, words_text, words}
use Rattle.dip_store_tables.specs.Columns.{ArePowers, IsStatusText, IsToldBy, word_of, names_of}

pub all_powers : (m : Chart) (ps : List ℕ) → AllByRecursion (λ p. p < length m.realms) ps → ArePowers m (map (power_name m) ps)
all_powers m [] all = tt
all_powers m (p ∷ ps) all = ((p, all.0, refl), all_powers m ps all.1)

-- those who share a game are of the map
drawn_told : (m : Chart) (names : List (List ℕ)) → IsToldBy m (codes "drawn") names → ArePowers m names
drawn_told m names (Running, of_map, word, is) = absurd (let bad : true ≡ false = ap (bytes_eq (codes "drawn")) word in cc)
drawn_told m names (Paused, of_map, word, is) = absurd (let bad : true ≡ false = ap (bytes_eq (codes "drawn")) word in cc)
drawn_told m names (Closed, of_map, word, is) = absurd (let bad : true ≡ false = ap (bytes_eq (codes "drawn")) word in cc)
drawn_told m names (Ended, of_map, word, is) = absurd (let bad : true ≡ false = ap (bytes_eq (codes "drawn")) word in cc)
drawn_told m names (Won power, of_map, word, is) = absurd (let bad : true ≡ false = ap (bytes_eq (codes "drawn")) word in cc)
drawn_told m names (Drawn powers, of_map, word, is) = subst (ArePowers m) (sym is) (all_powers m powers of_map)

pub drawn_powers : (m : Chart) (word : List ℕ) (names : List (List ℕ)) → bytes_eq word (codes "drawn") ≡ true → IsToldBy m word names → ArePowers m names
drawn_powers m word names hit told = drawn_told m names (subst (λ w. IsToldBy m w names) ((bytes_eq-Decides word (codes "drawn")).0 hit) told)

-- the words after the first
pub lines_behind : (ws : List (String Global)) → rows.lines (drop 1 ws) ≡ drop 1 (rows.lines ws)
lines_behind [] = refl
lines_behind (w ∷ ws) = refl

pub status_told : (m : Chart) (text word : List ℕ) (more : List (List ℕ)) → pieces 32 text ≡ word ∷ more → status_of m text ≡ status_in m word (drop 1 more)
status_told m text word more cut = ap (status_from m) cut

module _ (m : Chart) (ok : IsMap m) where
  text_words : (text : List ℕ) (told : IsStatusText m text) → pieces 32 text ≡ status_words m told.0
  text_words text (s, of_map, is) = ap (pieces 32) (is ∙ words_text m s) ∙ joined_back 32 (status_words m s) (words m ok s of_map)

  first_word : (s : Status) → get_or (status_words m s) 0 [] ≡ word_of s
  first_word Running = refl
  first_word Paused = refl
  first_word Closed = refl
  first_word Ended = refl
  first_word (Won power) = refl
  first_word (Drawn powers) = refl

  other_words : (s : Status) → drop 2 (status_words m s) ≡ names_of m s
  other_words Running = refl
  other_words Paused = refl
  other_words Closed = refl
  other_words Ended = refl
  other_words (Won power) = refl
  other_words (Drawn powers) = refl

  some_words : (s : Status) → length (status_words m s) ≡ 0 → ⊥
  some_words Running none = omega (arith, none)
  some_words Paused none = omega (arith, none)
  some_words Closed none = omega (arith, none)
  some_words Ended none = omega (arith, none)
  some_words (Won power) none = omega (arith, none)
  some_words (Drawn powers) none = omega (arith, none)

  pub no_words : (text : List ℕ) (ws : List (String Global)) → rows.lines ws ≡ pieces 32 text → length ws ≡ 0 → IsStatusText m text → ⊥
  no_words text ws cut none told =
      let same = ap length (sym (text_words text told) ∙ sym cut) ∙ length-map ws string_bytes in
      some_words told.0 (same ∙ none)

  pub told : (text word : List ℕ) (more : List (List ℕ)) → pieces 32 text ≡ word ∷ more → IsStatusText m text → IsToldBy m word (drop 1 more)
  told text word more cut said =
      let same = sym cut ∙ text_words text said in
      (said.0, said.1, ap (λ ws. get_or ws 0 []) same ∙ first_word said.0, ap (drop 2) same ∙ other_words said.0)

  -- a name that is none of the map's
  pub no_power : (names : List (List ℕ)) (i : ℕ) → i < length names → power_of m (get_or names i []) ≡ None → ArePowers m names → ⊥
  no_power [] i low none are = omega (arith, low)
  no_power (n ∷ names) zero low none are =
      let found : Some are.0.0 ≡ None = sym (ok.names_found are.0.0 are.0.1) ∙ ap (power_of m) (sym are.0.2) ∙ none in
      cc
  no_power (n ∷ names) (suc i) low none are = no_power names i (omega (arith, low)) none are.1

  pub no_power_at : (names : List (String Global)) (name : String Global) (i : ℕ) → i < length names → name ≡ get_or names i name
      → power_of m (string_bytes name) ≡ None → ArePowers m (rows.lines names) → ⊥
  no_power_at names name i low is none are =
      no_power (rows.lines names) i (omega (arith, low, length-map names string_bytes))
      (ap (power_of m) (get_or-map string_bytes names i name [] (omega (arith, low)) ∙ ap string_bytes (sym is)) ∙ none) are
