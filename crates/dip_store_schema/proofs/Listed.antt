-- What holds of each of a list, up to some place.
use Rattle.std.proofs.Common.{◌≡◌, ℕ, zero, suc, List, [], ◌∷◌, ◌+◌, ◌<◌, ◌≤◌, take, length, slice_index_or, subst, sym, arith}
use Rattle.std.specs.List.{AllByRecursion}
use Rattle.std.proofs.lemmas.List.{take_all}

module _ {A : Type 0} (P : A → Type 0) where
  pub at_place : (xs : List A) (i : ℕ) (d : A) → AllByRecursion P xs → i < length xs → P (slice_index_or xs i d)
  at_place [] i d all low = absurd (omega (arith, low))
  at_place (x ∷ xs) zero d all low = all.0
  at_place (x ∷ xs) (suc i) d all low = at_place xs i d all.1 (omega (arith, low))

  pub one_more : (xs : List A) (i : ℕ) (d : A) → AllByRecursion P (take i xs) → i < length xs → P (slice_index_or xs i d) → AllByRecursion P (take (i + 1) xs)
  one_more [] i d all low here = absurd (omega (arith, low))
  one_more (x ∷ xs) zero d all low here = (here, tt)
  one_more (x ∷ xs) (suc i) d all low here =
      let e : suc i + 1 ≡ suc (i + 1) = omega arith in
      subst (λ n. AllByRecursion P (take n (x ∷ xs))) (sym e) (all.0, one_more xs i d all.1 (omega (arith, low)) here)

  pub in_all : (xs : List A) (i : ℕ) → AllByRecursion P (take i xs) → length xs ≤ i → AllByRecursion P xs
  in_all xs i all far = subst (AllByRecursion P) (take_all i xs far) all
