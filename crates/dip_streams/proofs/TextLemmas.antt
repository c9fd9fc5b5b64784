-- Texts one after the other, and a beginning of them.
use Rattle.std.proofs.Common.{◌≡◌, ◌+◌, ◌<◌, ℕ, List, Option, get_or, length, take, drop, sym, ap, subst, ◌∙◌, ◌++◌, ◌∷◌, [], append_assoc, append-nil}
use Rattle.std.proofs.Math.Seq.{take-append_seam}
use Rattle.std.proofs.lemmas.List.{take-append-drop, take_more}
use Rattle.std.proofs.lemmas.List.Concat.{flat_map-append}
use Rattle.std.specs.List.{flat_map}
use Rattle.std.specs.Io.KnownBytes.{Appends}
use Rattle.std.proofs.KnownBytes.{Appends-trans}

-- a list of texts is those before one of them, that one and those after it
pub one_of : {X : Type 0} (f : X → List ℕ) (xs : List X) (i : ℕ) (d : X) → i < length xs
    → flat_map f xs ≡ (flat_map f (take i xs) ++ f (get_or xs i d)) ++ flat_map f (drop (i + 1) xs)
one_of f xs i d inside =
    let cut = ap (flat_map f) (sym (take-append-drop (i + 1) xs)) ∙ flat_map-append f (take (i + 1) xs) (drop (i + 1) xs) in
    let front = ap (flat_map f) (take_more xs i d inside) ∙ flat_map-append f (take i xs) (get_or xs i d ∷ [])
    ∙ ap (λ t. flat_map f (take i xs) ++ t) (append-nil (f (get_or xs i d))) in
    cut ∙ ap (λ t. t ++ flat_map f (drop (i + 1) xs)) front

-- a beginning of the second text after the first one is a beginning of all
part_of : (p t q : List ℕ) (size : ℕ) → p ++ take size t ≡ take (length (p ++ take size t)) ((p ++ t) ++ q)
part_of p t q size =
    let same : (p ++ take size t) ++ (drop size t ++ q) ≡ (p ++ t) ++ q =
    append_assoc p (take size t) (drop size t ++ q) ∙ ap (λ s. p ++ s) (sym (append_assoc (take size t) (drop size t) q) ∙ ap (λ s. s ++ q) (take-append-drop size t))
    ∙ sym (append_assoc p t q) in
    sym (take-append_seam (p ++ take size t) (drop size t ++ q)) ∙ ap (λ s. take (length (p ++ take size t)) s) same

-- whole texts and a beginning of the next one are a beginning of all
pub part_written : {X : Type 0} (a b c : Option (List ℕ)) (f : X → List ℕ) (xs : List X) (i : ℕ) (d : X) (size : ℕ) → i < length xs
    → Appends a b (flat_map f (take i xs)) → Appends b c (take size (f (get_or xs i d))) → (k : ℕ) × Appends a c (take k (flat_map f xs))
part_written a b c f xs i d size inside first second =
    let p = flat_map f (take i xs) in
    let t = f (get_or xs i d) in
    let q = flat_map f (drop (i + 1) xs) in
    (length (p ++ take size t), subst (λ (s : List ℕ). Appends a c s) (part_of p t q size ∙ ap (λ s. take (length (p ++ take size t)) s) (sym (one_of f xs i d inside))) (Appends-trans a b c _ _ first second))
