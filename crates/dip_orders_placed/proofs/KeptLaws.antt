-- What a test meets among the elements that another test keeps, where it keeps all that the first meets, or none.
use Rattle.std.proofs.Common.{◌≡◌, refl, Bool, true, false, ◌&&◌, List, [], ◌∷◌, ◌+◌, cond, arith, find, None}
use Rattle.std.specs.Prelude.{if◌then◌else◌}
use Rattle.std.specs.List.{list_any, filter, count_by}
use Rattle.std.proofs.lemmas.List.Sums.{sum_by-cons}

pub find_kept : {A : Type 0} (keep test : A → Bool) (all : Bool) → ((x : A) → test x ≡ true → keep x ≡ all) → (xs : List A) → find test (filter keep xs) ≡ if all then find test xs else None
find_kept keep test true h [] = refl
find_kept keep test false h [] = refl
find_kept keep test all h (x ∷ xs) = grind (arith, h x, find_kept keep test all h xs)

pub any_kept : {A : Type 0} (keep test : A → Bool) (all : Bool) → ((x : A) → test x ≡ true → keep x ≡ all) → (xs : List A) → list_any test (filter keep xs) ≡ (all && list_any test xs)
any_kept keep test true h [] = refl
any_kept keep test false h [] = refl
any_kept keep test all h (x ∷ xs) = grind (arith, h x, any_kept keep test all h xs)

pub count_cons : {A : Type 0} (test : A → Bool) (x : A) (xs : List A) → count_by test (x ∷ xs) ≡ cond (test x) 1 0 + count_by test xs
count_cons test x xs = sum_by-cons (λ y. cond (test y) 1 0) x xs

pub count_kept : {A : Type 0} (keep test : A → Bool) (all : Bool) → ((x : A) → test x ≡ true → keep x ≡ all) → (xs : List A) → count_by test (filter keep xs) ≡ if all then count_by test xs else 0
count_kept keep test true h [] = refl
count_kept keep test false h [] = refl
count_kept keep test all h (x ∷ xs) = grind (arith, h x, count_cons, count_kept keep test all h xs)
