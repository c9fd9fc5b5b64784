-- No key comes twice among the first of more records.
use Rattle.std.proofs.Common.{◌≡◌, ℕ, ◌+◌, ◌<◌, Bool, List, [], ◌∷◌, ◌++◌, map, take, drop, get_or, append_assoc, length, sym, ap, subst, ◌∙◌}
use Rattle.std.proofs.lemmas.List.{map-append, take-append-drop}
use Rattle.dip_store_sql.proofs.Keyed.{front_apart}
use Rattle.dip_store_sql.proofs.Parts.{taken_both, taken_more}
use Rattle.dip_store_sql.specs.Keys.{Differ}

-- what is made of a list is what is made of its parts
pub both_append : {A B C : Type 0} (h : B → C) (f : A → B) (xs ys : List A) → map h (map f (xs ++ ys)) ≡ map h (map f xs) ++ map h (map f ys)
both_append h f xs ys = ap (map h) (map-append f xs ys) ∙ map-append h (map f xs) (map f ys)

module _ {A : Type 0} (same : A → A → Bool) where
  -- records after others, by the first of them
  first_apart : (old front rest all : List A) → all ≡ front ++ rest → Differ same (old ++ all) → Differ same (old ++ front)
  first_apart old front rest all is apart = front_apart same (old ++ front) rest (subst (Differ same) (ap (λ xs. old ++ xs) is ∙ sym (append_assoc old front rest)) apart)

  -- the next record, after those in front of it
  pub next_apart : (old front more next rest all : List A) → all ≡ next ++ rest → next ≡ front ++ more → Differ same (old ++ all) → Differ same ((old ++ front) ++ more)
  next_apart old front more next rest all is turn apart =
      subst (Differ same) (ap (λ xs. old ++ xs) turn ∙ sym (append_assoc old front more)) (first_apart old next rest all is apart)

-- the records of a list, one for each
pub mapped_apart : {A B : Type 0} (same : B → B → Bool) (f : A → B) (xs : List A) (i : ℕ) (d : A) → i < length xs → (old : List B) → Differ same (old ++ map f xs)
    → Differ same ((old ++ map f (take i xs)) ++ f (get_or xs i d) ∷ [])
mapped_apart same f xs i d low old apart =
    next_apart same old (map f (take i xs)) (f (get_or xs i d) ∷ []) (map f (take (i + 1) xs)) (map f (drop (i + 1) xs)) (map f xs)
    (sym (sym (map-append f (take (i + 1) xs) (drop (i + 1) xs)) ∙ ap (map f) (take-append-drop (i + 1) xs))) (taken_more f xs i d low) apart

pub both_apart : {A B C : Type 0} (same : C → C → Bool) (h : B → C) (f : A → B) (xs : List A) (i : ℕ) (d : A) → i < length xs → (old : List C) → Differ same (old ++ map h (map f xs))
    → Differ same ((old ++ map h (map f (take i xs))) ++ h (f (get_or xs i d)) ∷ [])
both_apart same h f xs i d low old apart =
    let split : map f xs ≡ map f (take (i + 1) xs) ++ map f (drop (i + 1) xs) = sym (sym (map-append f (take (i + 1) xs) (drop (i + 1) xs)) ∙ ap (map f) (take-append-drop (i + 1) xs)) in
    next_apart same old (map h (map f (take i xs))) (h (f (get_or xs i d)) ∷ []) (map h (map f (take (i + 1) xs))) (map h (map f (drop (i + 1) xs))) (map h (map f xs))
    (ap (map h) split ∙ map-append h (map f (take (i + 1) xs)) (map f (drop (i + 1) xs))) (taken_both h f xs i d low) apart

-- some of a list, after those in front of them
pub some_apart : {A B C : Type 0} (same : C → C → Bool) (h : B → C) (f : A → B) (done more rest xs : List A) → xs ≡ done ++ (more ++ rest) → (old : List C) → Differ same (old ++ map h (map f xs))
    → Differ same ((old ++ map h (map f done)) ++ map h (map f more))
some_apart same h f done more rest xs is old apart =
    next_apart same old (map h (map f done)) (map h (map f more)) (map h (map f (done ++ more))) (map h (map f rest)) (map h (map f xs))
    (ap (λ ys. map h (map f ys)) (is ∙ sym (append_assoc done more rest)) ∙ both_append h f (done ++ more) rest) (both_append h f done more) apart
