-- The readers of press, one name after the other.
use Rattle.std.proofs.Common.{◌≡◌, ℕ, ◌<◌, ◌+◌, List, [], ◌∷◌, ◌++◌, Option, None, Some, String, length, get_or, drop, refl, sym, ap, ◌∙◌, append_assoc, string_bytes}
use Rattle.std.specs.declared.alloc.Global.{Global}
use Rattle.std.proofs.lemmas.List.{drop_more, map-append}
use Rattle.dip_map.specs.Charts.{Chart, power_of}
use Rattle.dip_desk_machine.specs.Pressing.{named_powers, with_power}
use Rattle.dip_desk_state.specs.Rows as rows

-- texts so far, and those after them
pub one_text : (found : List (String Global)) (text : String Global) (next : List ℕ) (rest all left : List (List ℕ)) → string_bytes text ≡ next → left ≡ next ∷ rest
    → rows.lines found ++ left ≡ all → rows.lines (found ++ text ∷ []) ++ rest ≡ all
one_text found text next rest all left is at before =
    ap (λ (ls : List (List ℕ)). ls ++ rest) (map-append (λ t. string_bytes t) found (text ∷ []))
    ∙ append_assoc (rows.lines found) (string_bytes text ∷ []) rest
    ∙ ap (λ (t : List ℕ). rows.lines found ++ t ∷ rest) is
    ∙ ap (λ (ls : List (List ℕ)). rows.lines found ++ ls) (sym at)
    ∙ before

-- what is found, with these in front
abbrev pub with_front : List ℕ → Option (List ℕ) → Option (List ℕ)
with_front front None = None
with_front front (Some more) = Some (front ++ more)

with_front_more : (front : List ℕ) (p : ℕ) (rest : Option (List ℕ)) → with_front front (with_power (Some p) rest) ≡ with_front (front ++ p ∷ []) rest
with_front_more front p None = refl
with_front_more front p (Some more) = ap (λ (l : List ℕ). Some l) (sym (append_assoc front (p ∷ []) more))

-- a name that is no power's
pub none_named : (m : Chart) (names : List (String Global)) (name : String Global) (i : ℕ) (front : List ℕ) (all : Option (List ℕ)) → i < length names → name ≡ get_or names i name
    → None ≡ power_of m (string_bytes name) → with_front front (named_powers m (rows.lines (drop i names))) ≡ all → None ≡ all
none_named m names name i front all lt is none before =
    let cut : drop i names ≡ name ∷ drop (i + 1) names = drop_more names i name lt ∙ ap (λ (x : String Global). x ∷ drop (i + 1) names) (sym is) in
    let next : with_front front (with_power (power_of m (string_bytes name)) (named_powers m (rows.lines (drop (i + 1) names)))) ≡ all = rw cut at before in
    rw (← none) at next

-- a name that is one's
pub one_named : (m : Chart) (names : List (String Global)) (name : String Global) (i : ℕ) (front : List ℕ) (p : ℕ) (all : Option (List ℕ)) → i < length names → name ≡ get_or names i name
    → Some p ≡ power_of m (string_bytes name) → with_front front (named_powers m (rows.lines (drop i names))) ≡ all
    → with_front (front ++ p ∷ []) (named_powers m (rows.lines (drop (i + 1) names))) ≡ all
one_named m names name i front p all lt is some before =
    let cut : drop i names ≡ name ∷ drop (i + 1) names = drop_more names i name lt ∙ ap (λ (x : String Global). x ∷ drop (i + 1) names) (sym is) in
    let next : with_front front (with_power (power_of m (string_bytes name)) (named_powers m (rows.lines (drop (i + 1) names)))) ≡ all = rw cut at before in
    let with_it : with_front front (with_power (Some p) (named_powers m (rows.lines (drop (i + 1) names)))) ≡ all = rw (← some) at next in
    sym (with_front_more front p (named_powers m (rows.lines (drop (i + 1) names)))) ∙ with_it
