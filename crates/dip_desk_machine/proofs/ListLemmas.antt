-- Facts of each element of a list.
use Rattle.std.proofs.Common.{◌≡◌, ℕ, ◌+◌, ◌&&◌, ◌∙◌, Bool, true, false, cond, fold, List, [], ◌∷◌, ◌++◌, map, refl, ap, Some, subst}
use Rattle.std.specs.List.{AllByRecursion, list_all}
use Rattle.std.specs.Prelude.{count_by}
use Rattle.dip_desk_state.specs.Keyed.{at, change_at}

-- what is found is an element
pub all_at : {K A : Type 0} (eq : K → K → Bool) (key : A → K) (k : K) (P : A → Type 0) (xs : List A) (x : A) → AllByRecursion P xs → at eq key k xs ≡ Some x → P x
all_at eq key k P [] x all found = absurd (cc)
all_at {K} {A} eq key k P (y ∷ ys) x all found =
    let go : (b : Bool) → cond b (Some y) (at eq key k ys) ≡ Some x → P x =
    elim [
      | true ↦ λ is. let same : y ≡ x = cc in subst P same all.0
      | false ↦ λ is. all_at eq key k P ys x all.1 is
    ]
    in go (eq (key y) k) found

-- one element is changed, and what is known of it may be used
pub all_change : {K A : Type 0} (eq : K → K → Bool) (key : A → K) (k : K) (f : A → A) (P : A → Type 0) (xs : List A) → AllByRecursion P xs
    → ((x : A) → at eq key k xs ≡ Some x → P x → P (f x)) → AllByRecursion P (change_at eq key k f xs)
all_change eq key k f P [] all step = tt
all_change {K} {A} eq key k f P (x ∷ xs) all step =
    let go : (b : Bool) → ((y : A) → cond b (Some x) (at eq key k xs) ≡ Some y → P y → P (f y)) → AllByRecursion P (cond b (f x ∷ xs) (x ∷ change_at eq key k f xs)) =
    elim [
      | true ↦ λ here. (here x refl all.0, all.1)
      | false ↦ λ there. (all.0, all_change eq key k f P xs all.1 there)
    ]
    in go (eq (key x) k) step

pub all_last : {A : Type 0} (P : A → Type 0) (xs : List A) (y : A) → AllByRecursion P xs → P y → AllByRecursion P (xs ++ y ∷ [])
all_last P [] y all h = (h, tt)
all_last P (x ∷ xs) y all h = (all.0, all_last P xs y all.1 h)

pub all_map : {A B : Type 0} (P : A → Type 0) (Q : B → Type 0) (f : A → B) (xs : List A) → ((x : A) → P x → Q (f x)) → AllByRecursion P xs → AllByRecursion Q (map f xs)
all_map P Q f [] step all = tt
all_map P Q f (x ∷ xs) step all = (step x all.0, all_map P Q f xs step all.1)

-- how many pass a test of the key stays the same where one element is changed and keeps its key
pub count_change : {K A : Type 0} (eq : K → K → Bool) (key : A → K) (k : K) (f : A → A) (p : K → Bool) (xs : List A) → ((x : A) → key (f x) ≡ key x)
    → count_by (λ x. p (key x)) (change_at eq key k f xs) ≡ count_by (λ x. p (key x)) xs
count_change {K} {A} eq key k f p xs keeps = from 0 xs
  where
    step : ℕ → A → ℕ
    step a x = a + cond (p (key x)) 1 0

    from : (a : ℕ) (xs : List A) → fold step a (change_at eq key k f xs) ≡ fold step a xs
    from a [] = refl
    from a (x ∷ xs) =
        let go : (b : Bool) → fold step a (cond b (f x ∷ xs) (x ∷ change_at eq key k f xs)) ≡ fold step (step a x) xs =
        elim [
          | true ↦ ap (λ (j : K). fold step (a + cond (p j) 1 0) xs) (keeps x)
          | false ↦ from (step a x) xs
        ]
        in go (eq (key x) k)

pub count_map : {A B : Type 0} (f : A → B) (p : B → Bool) (q : A → Bool) (xs : List A) → ((x : A) → p (f x) ≡ q x) → count_by p (map f xs) ≡ count_by q xs
count_map {A} {B} f p q xs same = from 0 xs
  where
    from : (a : ℕ) (xs : List A) → fold (λ n y. n + cond (p y) 1 0) a (map f xs) ≡ fold (λ n x. n + cond (q x) 1 0) a xs
    from a [] = refl
    from a (x ∷ xs) = ap (λ (b : Bool). fold (λ n y. n + cond (p y) 1 0) (a + cond b 1 0) (map f xs)) (same x) ∙ from (a + cond (q x) 1 0) xs

-- a test of each element that says the same as another
pub all_same : {A : Type 0} (p q : A → Bool) (xs : List A) → ((x : A) → p x ≡ q x) → list_all p xs ≡ list_all q xs
all_same p q [] same = refl
all_same p q (x ∷ xs) same = ap (λ (b : Bool). b && list_all p xs) (same x) ∙ ap (λ (b : Bool). q x && b) (all_same p q xs same)
