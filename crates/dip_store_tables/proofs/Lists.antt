-- Lists of records that are found by a key, or by a test.
use Rattle.std.proofs.Common.{◌≡◌, ℕ, Bool, true, false, cond, ◌&&◌, bytes_eq, map-id, find, Some, None, List, [], ◌∷◌, map, filter, refl, sym, ap, ap₂, subst, ◌∙◌, inl, inr}
use Rattle.std.specs.List.{AllByRecursion}
use Rattle.std.proofs.lemmas.Bool.{cases_Bool}
use Rattle.sqlite_trees.specs.Tree.{IsAscending}
use Rattle.sqlite_keyed.specs.Lists.{delete_where}
use Rattle.sqlite_keyed.proofs.ListLemmas.{filter-map, filter_same}
use Rattle.sqlite_keyed.proofs.SliceLemmas.{slice-delete_other}
use Rattle.dip_desk_state.specs.Keyed.{change_at}
use Rattle.dip_desk_state.proofs.KeyedLemmas.{Tells, names_tell}

module _ {K A : Type 0} (eq : K → K → Bool) (key : A → K) (k : K) where
  -- where the first with the key is found, no other is
  none_other : Tells eq → (f : A → A) (x : A) (ys : List A) → eq (key x) k ≡ true → AllByRecursion (λ b. eq (key x) (key b) ≡ false) ys
      → ys ≡ map (λ y. cond (eq (key y) k) (f y) y) ys
  none_other tells f x [] mine apart = refl
  none_other tells f x (y ∷ ys) mine apart = elim (cases_Bool (eq (key y) k)) [
    | inl e ↦ absurd (
        let is : key y ≡ key x = tells.same (key y) k e ∙ sym (tells.same (key x) k mine) in
        let tied : eq (key x) (key y) ≡ true = subst (λ j. eq (key x) j ≡ true) (sym is) (tells.self (key x)) in
        let h = sym tied ∙ apart.0 in cc)
    | inr e ↦ rw e (ap (λ zs. y ∷ zs) (none_other tells f x ys mine apart.1))
  ]

  -- where each key stands once, the first with the key is each with the key
  pub each_changed : Tells eq → (f : A → A) (xs : List A) → IsAscending (λ a b. eq (key a) (key b) ≡ false) xs
      → change_at eq key k f xs ≡ map (λ x. cond (eq (key x) k) (f x) x) xs
  each_changed tells f [] up = refl
  each_changed tells f (x ∷ xs) up = elim (cases_Bool (eq (key x) k)) [
    | inl e ↦ rw e (ap (λ ys. f x ∷ ys) (none_other tells f x xs e up.0))
    | inr e ↦ rw e (ap (λ ys. x ∷ ys) (each_changed tells f xs up.1))
  ]

  -- changes that are one on each record of the list
  pub change_at_on : (f g : A → A) (xs : List A) → AllByRecursion (λ x. f x ≡ g x) xs → change_at eq key k f xs ≡ change_at eq key k g xs
  change_at_on f g [] all = refl
  change_at_on f g (x ∷ xs) all = elim (cases_Bool (eq (key x) k)) [
    | inl e ↦ rw e (ap (λ y. y ∷ xs) all.0)
    | inr e ↦ rw e (ap (λ ys. x ∷ ys) (change_at_on f g xs all.1))
  ]

  -- a change that changes nothing
  pub change_at_same : (f : A → A) (xs : List A) → ((x : A) → f x ≡ x) → change_at eq key k f xs ≡ xs
  change_at_same f [] same = refl
  change_at_same f (x ∷ xs) same = elim (cases_Bool (eq (key x) k)) [
    | inl e ↦ rw e (ap (λ y. y ∷ xs) (same x))
    | inr e ↦ rw e (ap (λ ys. x ∷ ys) (change_at_same f xs same))
  ]

  -- one change after another
  pub change_at_twice : (f g : A → A) (xs : List A) → ((x : A) → key (f x) ≡ key x)
      → change_at eq key k g (change_at eq key k f xs) ≡ change_at eq key k (λ x. g (f x)) xs
  change_at_twice f g [] keeps = refl
  change_at_twice f g (x ∷ xs) keeps = elim (cases_Bool (eq (key x) k)) [
    | inl e ↦ let e2 : eq (key (f x)) k ≡ true = ap (λ j. eq j k) (keeps x) ∙ e in rw (e, e2) refl
    | inr e ↦ rw (e, e) (ap (λ ys. x ∷ ys) (change_at_twice f g xs keeps))
  ]

-- functions that are one on each record of the list
pub map_on : {A B : Type 0} (f g : A → B) (xs : List A) → AllByRecursion (λ x. f x ≡ g x) xs → map f xs ≡ map g xs
map_on f g [] all = refl
map_on f g (x ∷ xs) all = ap₂ ◌∷◌ all.0 (map_on f g xs all.1)

pub all_passed : {A : Type 0} (p : A → Bool) (xs : List A) → AllByRecursion (λ x. p x ≡ true) (filter p xs)
all_passed p [] = tt
all_passed p (x ∷ xs) = elim (cases_Bool (p x)) [ inl e ↦ rw e (e, all_passed p xs) | inr e ↦ rw e (all_passed p xs) ]

-- what a function doesn't move is found after it
pub filter_through : {A : Type 0} (p : A → Bool) (f : A → A) (xs : List A) → ((x : A) → p (f x) ≡ p x) → filter p (map f xs) ≡ map f (filter p xs)
filter_through p f xs stays = filter-map p f xs ∙ ap (map f) (filter_same (λ x. p (f x)) p stays xs)

-- two tests, in either order
pub filters_turned : {A : Type 0} (p q : A → Bool) (xs : List A) → filter p (filter q xs) ≡ filter q (filter p xs)
filters_turned p q [] = refl
filters_turned p q (x ∷ xs) = elim (cases_Bool (p x)) [
  | inl e ↦ elim (cases_Bool (q x)) [ inl f ↦ rw (e, f, e) (ap (λ ys. x ∷ ys) (filters_turned p q xs)) | inr f ↦ rw (e, f) (filters_turned p q xs) ]
  | inr e ↦ elim (cases_Bool (q x)) [ inl f ↦ rw (e, f, e) (filters_turned p q xs) | inr f ↦ rw (e, f) (filters_turned p q xs) ]
]

pub none_left : {A : Type 0} (p : A → Bool) (xs : List A) → filter p (delete_where p xs) ≡ []
none_left p [] = refl
none_left p (x ∷ xs) = elim (cases_Bool (p x)) [ inl e ↦ rw e (none_left p xs) | inr e ↦ rw (e, e) (none_left p xs) ]

-- nor is any left that passes a narrower test
pub none_narrower : {A : Type 0} (p q : A → Bool) (xs : List A) → filter (λ x. p x && q x) (delete_where p xs) ≡ []
none_narrower p q [] = refl
none_narrower p q (x ∷ xs) = elim (cases_Bool (p x)) [ inl e ↦ rw e (none_narrower p q xs) | inr e ↦ rw (e, e) (none_narrower p q xs) ]

-- the rows of one key are left where those of another are taken out
pub far_deleted : {A : Type 0} (key : A → List ℕ) (q : A → Bool) (n k : List ℕ) → bytes_eq k n ≡ false → (xs : List A)
    → filter (λ x. bytes_eq (key x) n && q x) (delete_where (λ x. bytes_eq (key x) k) xs) ≡ filter (λ x. bytes_eq (key x) n && q x) xs
far_deleted key q n k far xs =
    sym (map-id _)
    ∙ slice-delete_other (λ x. bytes_eq (key x) n && q x) (λ x. x) (λ x. bytes_eq (key x) k)
    (λ x h. ap (λ b. b && q x) (subst (λ j. bytes_eq j n ≡ false) (sym (names_tell.same (key x) k h)) far)) xs
    ∙ map-id _

-- tests that are one on each record find the same
pub filter_on : {A : Type 0} (p q : A → Bool) (xs : List A) → AllByRecursion (λ x. p x ≡ q x) xs → filter p xs ≡ filter q xs
filter_on p q [] all = refl
filter_on p q (x ∷ xs) all = ap₂ (λ b ys. cond b (x ∷ ys) ys) all.0 (filter_on p q xs all.1)

pub none_found : {A : Type 0} (p : A → Bool) (xs : List A) → AllByRecursion (λ x. p x ≡ false) xs → find p xs ≡ None
none_found p [] none = refl
none_found p (x ∷ xs) none = rw none.0 (none_found p xs none.1)

pub find_on : {A : Type 0} (p q : A → Bool) (xs : List A) → AllByRecursion (λ x. p x ≡ q x) xs → find p xs ≡ find q xs
find_on p q [] all = refl
find_on p q (x ∷ xs) all = ap₂ (λ b o. cond b (Some x) o) all.0 (find_on p q xs all.1)
