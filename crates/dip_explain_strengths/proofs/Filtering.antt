-- What a filter leaves of a list, printed one by one.
use Rattle.std.proofs.Common.{◌≡◌, ◌∙◌, ◌<◌, ◌+◌, ◌++◌, ℕ, Bool, true, false, List, [], ◌∷◌, ap, append_assoc, cond, drop, filter, flat_map, get_or, length, refl, sym}
use Rattle.std.proofs.lemmas.List.{append-nil, at_drop_more}

-- from a place on there is the one at it, and those from the next on
pub item_next : (xs : List ℕ) (i x : ℕ) → i < length xs → x ≡ get_or xs i x → drop i xs ≡ x ∷ drop (i + 1) xs
item_next xs i x low is = at_drop_more (λ (ys : List ℕ). ys) xs i x low ∙ ap (λ (y : ℕ). y ∷ drop (i + 1) xs) (sym is)

-- what a filter leaves of a list, printed, goes on by one
pub filtered_next : (F : ℕ → Bool) (T : ℕ → List ℕ) (x : ℕ) (xs : List ℕ) (b : Bool) → F x ≡ b → flat_map T (filter F (x ∷ xs)) ≡ cond b (T x) [] ++ flat_map T (filter F xs)
filtered_next F T x xs true e = rw e refl
filtered_next F T x xs false e = rw e refl

pub step_kept : (F : ℕ → Bool) (T : ℕ → List ℕ) (xs : List ℕ) (i x : ℕ) (b : Bool) (old new R : List ℕ) → i < length xs → x ≡ get_or xs i x → F x ≡ b
    → new ≡ old ++ cond b (T x) [] → old ++ flat_map T (filter F (drop i xs)) ≡ R → new ++ flat_map T (filter F (drop (i + 1) xs)) ≡ R
step_kept F T xs i x b old new R low is test made before =
    ap (λ (t : List ℕ). t ++ flat_map T (filter F (drop (i + 1) xs))) made
    ∙ append_assoc old (cond b (T x) []) (flat_map T (filter F (drop (i + 1) xs)))
    ∙ ap (λ (t : List ℕ). old ++ t) (sym (filtered_next F T x (drop (i + 1) xs) b test))
    ∙ ap (λ (ys : List ℕ). old ++ flat_map T (filter F ys)) (sym (item_next xs i x low is))
    ∙ before

pub nothing_more : (old new : List ℕ) → new ≡ old → new ≡ old ++ []
nothing_more old new e = e ∙ sym (append-nil old)
