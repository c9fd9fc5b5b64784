-- Records of lists that have no key twice.
use Rattle.std.proofs.Common.{◌≡◌, ◌≤◌, ◌&&◌, ℕ, zero, suc, Bool, true, false, cond, not, List, [], ◌∷◌, ◌++◌, map, filter, find, Some, None, bytes_eq, inl, inr, refl, sym, subst, ◌∙◌, arith}
use Rattle.std.specs.List.{AllByRecursion}
use Rattle.std.proofs.lemmas.Bool.{cases_Bool}
use Rattle.std.proofs.lemmas.Slice.Eq.{bytes_eq-Decides}
use Rattle.dip_store_tables.specs.Lists.{delete_where, update_where}
use Rattle.dip_store_tables.proofs.ListLemmas.{all_kept, all_unmap, all_weaker, ascending-append, ascending-filter}
use Rattle.dip_store_tables.specs.Counting.{counted}
use Rattle.dip_store_sql.specs.Keys.{Differ}

pub same_bytes : (a b : List ℕ) → bytes_eq a b ≡ true → a ≡ b
same_bytes a b e = (bytes_eq-Decides a b).0 e

pub own_bytes : (a : List ℕ) → bytes_eq a a ≡ true
own_bytes a = (bytes_eq-Decides a a).1 refl

-- where a part of a test fails it fails
pub first_off : (a b : Bool) → a ≡ false → (a && b) ≡ false
first_off a b off = rw off refl

pub second_off : (a b : Bool) → b ≡ false → (a && b) ≡ false
second_off true b off = off
second_off false b off = refl

pub under_first : (a b c : Bool) → (a && b) ≡ false → (a && (b && c)) ≡ false
under_first true b c off = first_off b c off
under_first false b c off = refl

module _ {A : Type 0} where
  pub all_left : (p : A → Bool) (xs : List A) → AllByRecursion (λ x. p x ≡ false) (delete_where p xs)
  all_left p [] = tt
  all_left p (x ∷ xs) = elim (cases_Bool (p x)) [
    | inl e ↦ rw e (all_left p xs)
    | inr e ↦ rw e (e, all_left p xs)
  ]

  -- each of a list beside each of another
  pub across : (R : A → A → Type 0) (P Q : A → Type 0) (xs ys : List A) → ((x y : A) → P x → Q y → R x y) → AllByRecursion P xs → AllByRecursion Q ys → AllByRecursion (λ x. AllByRecursion (R x) ys) xs
  across R P Q xs ys meet left right = all_weaker P (λ x. AllByRecursion (R x) ys) (λ x it. all_weaker Q (R x) (λ y also. meet x y it also) ys right) xs left

  pub turned : {B : Type 0} (R : A → B → Type 0) (xs : List A) (ys : List B) → AllByRecursion (λ y. AllByRecursion (λ x. R x y) xs) ys → AllByRecursion (λ x. AllByRecursion (λ y. R x y) ys) xs
  turned R [] ys all = tt
  turned {B} R (x ∷ xs) ys all = (
    all_weaker (λ y. AllByRecursion (λ z. R z y) (x ∷ xs)) (λ y. R x y) (λ y both. both.0) ys all,
    turned R xs ys (all_weaker (λ y. AllByRecursion (λ z. R z y) (x ∷ xs)) (λ y. AllByRecursion (λ z. R z y) xs) (λ y both. both.1) ys all),
  )

  module _ (same : A → A → Bool) where
    pub left_apart : (p : A → Bool) (xs : List A) → Differ same xs → Differ same (delete_where p xs)
    left_apart p xs apart = ascending-filter _ (λ x. not (p x)) xs apart

    pub joined_apart : (xs ys : List A) → Differ same xs → Differ same ys → AllByRecursion (λ x. AllByRecursion (λ y. same x y ≡ false) ys) xs → Differ same (xs ++ ys)
    joined_apart xs ys one two both = ascending-append (λ a b. same a b ≡ false) xs ys one two both

    -- records in the place of those that pass a test
    pub put_apart : (p : A → Bool) (Q : A → Type 0) (old news : List A) → ((x y : A) → p x ≡ false → Q y → same x y ≡ false) → Differ same old → Differ same news → AllByRecursion Q news
        → Differ same (delete_where p old ++ news)
    put_apart p Q old news far apart new its =
        joined_apart (delete_where p old) news (left_apart p old apart) new (across (λ x y. same x y ≡ false) (λ x. p x ≡ false) Q (delete_where p old) news far (all_left p old) its)

    -- records changed but for their key
    pub changed_apart : (p : A → Bool) (f : A → A) → ((a b : A) → same (f a) b ≡ same a b) → ((a b : A) → same a (f b) ≡ same a b) → (xs : List A) → Differ same xs → Differ same (update_where p f xs)
    changed_apart p f one other [] apart = tt
    changed_apart p f one other (x ∷ xs) apart = (behind x xs apart.0, changed_apart p f one other xs apart.1)
      where
        new : A → A
        new y = cond (p y) (f y) y

        both : (x y : A) → same x y ≡ false → same (new x) (new y) ≡ false
        both x y e = elim (cases_Bool (p x)) [
          | inl a ↦ elim (cases_Bool (p y)) [ inl b ↦ rw (a, b) (one x (f y) ∙ other x y ∙ e) | inr b ↦ rw (a, b) (one x y ∙ e) ]
          | inr a ↦ elim (cases_Bool (p y)) [ inl b ↦ rw (a, b) (other x y ∙ e) | inr b ↦ rw (a, b) e ]
        ]

        behind : (x : A) (ys : List A) → AllByRecursion (λ y. same x y ≡ false) ys → AllByRecursion (λ y. same (new x) y ≡ false) (update_where p f ys)
        behind x [] all = tt
        behind x (y ∷ ys) all = (both x y all.0, behind x ys all.1)

  -- what holds of each holds of the one that is found, which passes
  pub found_holds : (P : A → Type 0) (p : A → Bool) (xs : List A) (x : A) → find p xs ≡ Some x → AllByRecursion P xs → P x × (p x ≡ true)
  found_holds P p [] x is all = absurd (cc)
  found_holds P p (y ∷ ys) x is all = elim (cases_Bool (p y)) [
    | inl e ↦
        let both = rw e at is in
        let one : y ≡ x = cc in
        (subst P one all.0, subst (λ z. p z ≡ true) one e)
    | inr e ↦ found_holds P p ys x (rw e at is) all.1
  ]

  pub none_passes : (p : A → Bool) (xs : List A) → find p xs ≡ None → AllByRecursion (λ x. p x ≡ false) xs
  none_passes p [] none = tt
  none_passes p (x ∷ xs) none = elim (cases_Bool (p x)) [
    | inl e ↦ absurd (let bad = rw e at none in cc)
    | inr e ↦ (e, none_passes p xs (rw e at none))
  ]

  -- where no two that pass are there, all that pass are the one that is found
  pub only_found : (same : A → A → Bool) (p : A → Bool) (meet : (x y : A) → p x ≡ true → p y ≡ true → same x y ≡ true) (P : A → Type 0) (xs : List A) (x : A) → Differ same xs → find p xs ≡ Some x → P x
      → AllByRecursion (λ y. p y ≡ true → P y) xs
  only_found same p meet P [] x apart is holds = tt
  only_found same p meet P (y ∷ ys) x apart is holds = elim (cases_Bool (p y)) [
    | inl e ↦
        let both = rw e at is in
        let one : x ≡ y = cc in
        (λ _. subst P one holds, all_weaker (λ z. same y z ≡ false) (λ z. p z ≡ true → P z) (λ z far also. absurd (let bad = sym (meet y z e also) ∙ far in cc)) ys apart.0)
    | inr e ↦ (λ hit. absurd (let bad = sym hit ∙ e in cc), only_found same p meet P ys x apart.1 (rw e at is) holds)
  ]

-- the numbers from 1 to n are at most n
counted_most : (n k : ℕ) → n ≤ k → AllByRecursion (λ i. i ≤ k) (counted n)
counted_most zero k most = tt
counted_most (suc n) k most = all_push (λ i. i ≤ k) (counted n) (suc n) (counted_most n k (omega (arith, most))) most
  where
    all_push : (P : ℕ → Type 0) (xs : List ℕ) (x : ℕ) → AllByRecursion P xs → P x → AllByRecursion P (xs ++ x ∷ [])
    all_push P [] x all last = (last, tt)
    all_push P (y ∷ ys) x all last = (all.0, all_push P ys x all.1 last)

-- where those that pass are numbered from 1 to n, each of them has a number up to n
pub numbers_most : {A : Type 0} (p : A → Bool) (number : A → ℕ) (n : ℕ) (xs : List A) → map number (filter p xs) ≡ counted n → AllByRecursion (λ x. p x ≡ true → number x ≤ n) xs
numbers_most p number n xs are =
    all_kept (λ x. number x ≤ n) p xs (all_unmap (λ i. i ≤ n) number (filter p xs) (subst (AllByRecursion (λ i. i ≤ n)) (sym are) (counted_most n n (omega arith))))
