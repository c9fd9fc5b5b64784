-- Fields of one name, one after another.
use Rattle.std.proofs.Common.{◌≡◌, ◌<◌, ◌+◌, ℕ, List, [], ◌∷◌, ◌++◌, true, false, if◌then◌else◌, length, map, take, get_or, refl, ap, ◌∙◌}
use Rattle.std.specs.Str.{str_eq_ignore_ascii_case}
use Rattle.std.proofs.lemmas.List.{take_more, map-append}
use Rattle.httparse.specs.Spans.{header_bytes}
use Rattle.httparse.specs.declared.spans.HeaderSpan.{HeaderSpan}
use Rattle.dip_http_messages.specs.Fields.{found_of, found_more, values_of, field_of}

pub found_of-more : (vs : List (List ℕ)) (v : List ℕ) → found_of (vs ++ v ∷ []) ≡ found_more (found_of vs) v
found_of-more [] v = refl
found_of-more (w ∷ []) v = refl
found_of-more (w ∷ x ∷ vs) v = refl

-- a field of this name
pub field_of-more : (name : List ℕ) (fs : List (List ℕ × List ℕ)) (f : List ℕ × List ℕ) → str_eq_ignore_ascii_case f.0 name ≡ true
    → field_of name (fs ++ f ∷ []) ≡ found_more (field_of name fs) f.1
field_of-more name fs f e = ap found_of (values fs) ∙ found_of-more (values_of name fs) f.1
  where
    values : (gs : List (List ℕ × List ℕ)) → values_of name (gs ++ f ∷ []) ≡ values_of name gs ++ f.1 ∷ []
    values [] = rw e refl
    values (g ∷ gs) =
        elim (str_eq_ignore_ascii_case g.0 name) as (λ t. (if t then g.1 ∷ values_of name (gs ++ f ∷ []) else values_of name (gs ++ f ∷ [])) ≡ (if t then g.1 ∷ values_of name gs else values_of name gs) ++ f.1 ∷ [])
        [ true ↦ ap (λ vs. g.1 ∷ vs) (values gs) | false ↦ values gs ]

-- a field of another name
pub field_of-other : (name : List ℕ) (fs : List (List ℕ × List ℕ)) (f : List ℕ × List ℕ) → str_eq_ignore_ascii_case f.0 name ≡ false
    → field_of name (fs ++ f ∷ []) ≡ field_of name fs
field_of-other name fs f e = ap found_of (values fs)
  where
    values : (gs : List (List ℕ × List ℕ)) → values_of name (gs ++ f ∷ []) ≡ values_of name gs
    values [] = rw e refl
    values (g ∷ gs) =
        elim (str_eq_ignore_ascii_case g.0 name) as (λ t. (if t then g.1 ∷ values_of name (gs ++ f ∷ []) else values_of name (gs ++ f ∷ [])) ≡ (if t then g.1 ∷ values_of name gs else values_of name gs))
        [ true ↦ ap (λ vs. g.1 ∷ vs) (values gs) | false ↦ values gs ]

-- in place of a header past the end
abbrev pub no_span : HeaderSpan
no_span = record { name = record { start = 0; end = 0 }; value = record { start = 0; end = 0 } }

-- one header more
pub fields_more : (buf : List ℕ) (hs : List HeaderSpan) (i : ℕ) → i < length hs
    → map (header_bytes buf) (take (i + 1) hs) ≡ map (header_bytes buf) (take i hs) ++ header_bytes buf (get_or hs i no_span) ∷ []
fields_more buf hs i lt = ap (map (header_bytes buf)) (take_more hs i no_span lt) ∙ map-append (header_bytes buf) (take i hs) _
