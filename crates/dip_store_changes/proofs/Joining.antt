-- Words joined by a byte: the first, and each other after that byte.
use Rattle.std.proofs.Common.{◌≡◌, ℕ, codes, String, string_bytes, ◌<◌, List, [], ◌∷◌, ◌++◌, drop, flat_map, get_or, length, ap, refl, sym, append-nil, arith}
use Rattle.std.specs.declared.alloc.Global.{Global}
use Rattle.dip_map.specs.Charts.{Chart}
use Rattle.dip_desk_state.specs.Rows as records
use Rattle.dip_store_tables.specs.Texts.{joined}
use Rattle.dip_store_tables.specs.Boards.{code, standoff_text}

codes_from : (m : Chart) (p : ℕ) (ps : List ℕ) → standoff_text m (p ∷ ps) ≡ code m p ++ flat_map (λ q. codes " " ++ code m q) ps
codes_from m p [] = sym (append-nil (code m p))
codes_from m p (q ∷ ps) = ap (λ rest. code m p ++ 32 ∷ rest) (codes_from m q ps)

pub codes_none : (m : Chart) (ps : List ℕ) → length ps ≡ 0 → standoff_text m ps ≡ []
codes_none m [] none = refl
codes_none m (p ∷ ps) none = absurd (omega (arith, none))

pub codes_joined : (m : Chart) (ps : List ℕ) (d : ℕ) → 0 < length ps → code m (get_or ps 0 d) ++ flat_map (λ q. codes " " ++ code m q) (drop 1 ps) ≡ standoff_text m ps
codes_joined m [] d low = absurd (omega (arith, low))
codes_joined m (p ∷ ps) d low = sym (codes_from m p ps)

pub words_none : (ws : List (String Global)) → length ws ≡ 0 → joined 32 (records.lines ws) ≡ []
words_none [] none = refl
words_none (w ∷ ws) none = absurd (omega (arith, none))

pub words_joined : (ws : List (String Global)) (d : String Global) → 0 < length ws → string_bytes (get_or ws 0 d) ++ flat_map (λ v. codes " " ++ v) (records.lines (drop 1 ws)) ≡ joined 32 (records.lines ws)
words_joined [] d low = absurd (omega (arith, low))
words_joined (w ∷ ws) d low = refl
