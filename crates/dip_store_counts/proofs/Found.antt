-- What holds of the one that is found holds of all that pass.
use Rattle.std.proofs.Common.{◌≡◌, ℕ, ◌+◌, pos, Bool, true, List, [], ◌∷◌, filter, find, slice_get, Option, Some, None, option_map, refl, sym, ap, subst, ◌∙◌, inl, inr}
use Rattle.std.specs.List.{AllByRecursion}
use Rattle.std.proofs.lemmas.Bool.{cases_Bool}
use Rattle.dip_store_tables.proofs.ListLemmas.{slice_get-filter}
use Rattle.sqlite.specs.Order.{Row, column}
use Rattle.sqlite.specs.declared.types.Value.TheVariants.{Int}
use Rattle.dip_store_sql.specs.Recorded.{AtMostOne}

module _ {A : Type 0} (p : A → Bool) (Q : A → Type 0) where
  passed : (xs : List A) → AllByRecursion Q (filter p xs) → AllByRecursion (λ x. p x ≡ true → Q x) xs
  passed [] all = tt
  passed (x ∷ xs) all = elim (cases_Bool (p x)) [
    | inl e ↦ let both = rw e at all in (λ _. both.0, passed xs both.1)
    | inr e ↦ (λ hit. absurd (let bad = sym hit ∙ e in cc), passed xs (rw e at all))
  ]

  -- what holds of the one that is found holds of all that pass
  pub found_alone : (xs : List A) → AtMostOne p xs → ((x : A) → find p xs ≡ Some x → Q x) → AllByRecursion (λ x. p x ≡ true → Q x) xs
  found_alone xs (inl none) holds = passed xs (subst (AllByRecursion Q) (sym none) tt)
  found_alone xs (inr one) holds = passed xs (subst (AllByRecursion Q) (sym one.1) (holds one.0 (sym (slice_get-filter p xs) ∙ ap (λ ys. slice_get ys 0) one.1), tt))

-- a count of the one that passes
module _ {A : Type 0} (p : A → Bool) (number : A → ℕ) (xs : List A) (one : AtMostOne p xs) where
  pub none_counted : (Q : A → Type 0) → None ≡ option_map number (find p xs) → AllByRecursion (λ x. p x ≡ true → Q x) xs
  none_counted Q none = found_alone p Q xs one (λ x is. absurd (let bad = none ∙ ap (option_map number) is in cc))

  pub one_counted : (count n : ℕ) → Some count ≡ option_map number (find p xs) → n ≡ count + 1 → AllByRecursion (λ x. p x ≡ true → n ≡ number x + 1) xs
  one_counted count n found next = found_alone p (λ x. n ≡ number x + 1) xs one (λ x is.
      let same : count ≡ number x = (let both = found ∙ ap (option_map number) is in cc) in
      next ∙ ap (λ k. k + 1) same)

-- a count that a column of a row shows
module _ {A : Type 0} (at : ℕ) (show : A → Row) (number : A → ℕ) (shown : (x : A) → column (show x) at ≡ Int (pos (number x))) where
  pub none_shown : (o : Option A) → None ≡ option_map show o → None ≡ option_map number o
  none_shown None none = refl
  none_shown (Some x) none = absurd (cc)

  pub one_shown : (o : Option A) (row : Row) (count : ℕ) → Some row ≡ option_map show o → column row at ≡ Int (pos count) → Some count ≡ option_map number o
  one_shown None row count found reads = absurd (cc)
  one_shown (Some x) row count found reads =
      let same : row ≡ show x = cc in
      let columns = sym reads ∙ ap (λ r. column r at) same ∙ shown x in
      let counts : count ≡ number x = cc in
      ap (λ n. Some n) counts
