-- What was written of papers, so far.
use Rattle.std.proofs.Common.{◌≡◌, ◌+◌, ◌<◌, ◌≤◌, ℕ, List, Option, get_or, length, take, drop, sym, ap, subst, ◌∙◌, ◌++◌, []}
use Rattle.std.proofs.Math.Seq.{take-append_seam}
use Rattle.std.proofs.lemmas.List.{take-append-drop, take_all}
use Rattle.std.proofs.lemmas.List.Concat.{flat_map-append}
use Rattle.std.specs.List.{flat_map}
use Rattle.std.specs.Io.KnownBytes.{Appends}
use Rattle.std.proofs.KnownBytes.{Appends-trans}
use Rattle.dip_streams.proofs.TextLemmas.{part_written}
use Rattle.dip_desk_keeper.proofs.Numbers.{one_more}

abbrev text : List (List ℕ) → List ℕ
text ps = flat_map (λ p. p) ps

-- a front of a text is a beginning of it
front : (p q all : List ℕ) → p ++ q ≡ all → p ≡ take (length p) all
front p q all is = sym (take-append_seam p q) ∙ ap (take (length p)) is

-- the papers before a number are a beginning of all
pub begun : (ps : List (List ℕ)) (n : ℕ) (a b : Option (List ℕ)) → Appends a b (text (take n ps)) → (size : ℕ) × Appends a b (take size (text ps))
begun ps n a b out =
    let split : text (take n ps) ++ text (drop n ps) ≡ text ps = sym (flat_map-append (λ p. p) (take n ps) (drop n ps)) ∙ ap text (take-append-drop n ps) in
    (length (text (take n ps)), subst (λ (s : List ℕ). Appends a b s) (front _ (text (drop n ps)) (text ps) split) out)

-- and so are they with a beginning of the next
pub begun_more : (ps : List (List ℕ)) (n : ℕ) (t : List ℕ) (size : ℕ) (a b c : Option (List ℕ)) → n < length ps → get_or ps n [] ≡ t → Appends a b (text (take n ps)) → Appends b c (take size t)
    → (k : ℕ) × Appends a c (take k (text ps))
begun_more ps n t size a b c inside is out part =
    part_written a b c (λ p. p) ps n [] size inside out (subst (λ (s : List ℕ). Appends b c (take size s)) (sym is) part)

-- one paper more
pub more : (ps : List (List ℕ)) (n : ℕ) (t : List ℕ) (a b c : Option (List ℕ)) → n < length ps → get_or ps n [] ≡ t → Appends a b (text (take n ps)) → Appends b c t → Appends a c (text (take (n + 1) ps))
more ps n t a b c inside is out part = subst (λ (s : List ℕ). Appends a c s) (sym (one_more ps n t inside is)) (Appends-trans a b c _ _ out part)

-- all of them
pub all : (ps : List (List ℕ)) (n : ℕ) (a b : Option (List ℕ)) → length ps ≤ n → Appends a b (text (take n ps)) → Appends a b (text ps)
all ps n a b enough out = subst (λ (s : List ℕ). Appends a b s) (ap text (take_all n ps enough)) out
