-- Lists of records that are found by a key.
use Rattle.std.proofs.Common.{◌≡◌, ℕ, ◌<◌, ◌≤◌, ◌+◌, Bool, true, false, cond, List, [], ◌∷◌, map, length, get_or, add-one, suc, refl, sym, ◌∙◌, ap, arith, ◌++◌, Some, eqb, option_map, bytes_eq}
use Rattle.std.specs.Prelude.{slice_set}
use Rattle.std.specs.Option.{option_or}
use Rattle.std.proofs.lemmas.Bool.{eqb-true, eq-eqb}
use Rattle.std.proofs.lemmas.Slice.Eq.{bytes_eq-Decides}
use Rattle.std.proofs.lemmas.List.{map-set, get_or-map, length-map}
use Rattle.dip_desk_state.specs.Keyed.{at, change_at, place}

-- a test of keys that tells equality
pub record Tells {K : Type 0} (eq : K → K → Bool) : Type 0 where
  pub same : (a b : K) → eq a b ≡ true → a ≡ b
  pub self : (a : K) → eq a a ≡ true

-- what is found has the key
pub at_key : {K A : Type 0} (eq : K → K → Bool) (key : A → K) (k : K) (xs : List A) (x : A) → at eq key k xs ≡ Some x → eq (key x) k ≡ true
at_key eq key k [] x h = cc
at_key eq key k (y ∷ ys) x h =
    let go : (b : Bool) → eq (key y) k ≡ b → eq (key x) k ≡ true =
    elim [
      | true ↦ λ e. let i : cond (eq (key y) k) (Some y) (at eq key k ys) ≡ Some x = h in let j : Some y ≡ Some x = rw e at i in let m : y ≡ x = cc in rw m at e
      | false ↦ λ e. let i : cond (eq (key y) k) (Some y) (at eq key k ys) ≡ Some x = h in at_key eq key k ys x (rw e at i)
    ]
    in go (eq (key y) k) refl

-- the changed record is found at its key
pub at-change_at_same : {K A : Type 0} (eq : K → K → Bool) (key : A → K) (k : K) (f : A → A) (xs : List A) → ((x : A) → key (f x) ≡ key x) → at eq key k (change_at eq key k f xs) ≡ option_map f (at eq key k xs)
at-change_at_same eq key k f [] keeps = refl
at-change_at_same {K} {A} eq key k f (x ∷ xs) keeps =
    let go : (b : Bool) → eq (key x) k ≡ b → at eq key k (cond b (f x ∷ xs) (x ∷ change_at eq key k f xs)) ≡ option_map f (cond b (Some x) (at eq key k xs)) =
    elim [
      | true ↦ λ e. let kept : eq (key (f x)) k ≡ true = ap (λ y. eq y k) (keeps x) ∙ e in rw kept refl
      | false ↦ λ e. rw e (at-change_at_same eq key k f xs keeps)
    ]
    in go (eq (key x) k) refl

-- and the others as they were
pub at-change_at_other : {K A : Type 0} (eq : K → K → Bool) (key : A → K) (j k : K) (f : A → A) (xs : List A) → Tells eq → ((x : A) → key (f x) ≡ key x) → eq j k ≡ false → at eq key k (change_at eq key j f xs) ≡ at eq key k xs
at-change_at_other eq key j k f [] tells keeps differ = refl
at-change_at_other {K} {A} eq key j k f (x ∷ xs) tells keeps differ =
    let go : (b : Bool) → eq (key x) j ≡ b → at eq key k (cond b (f x ∷ xs) (x ∷ change_at eq key j f xs)) ≡ cond (eq (key x) k) (Some x) (at eq key k xs) =
    elim [
      | true ↦ λ e. let here : key x ≡ j = tells.same (key x) j e in let other : eq (key x) k ≡ false = ap (λ y. eq y k) here ∙ differ in let other_more : eq (key (f x)) k ≡ false = ap (λ y. eq y k) (keeps x) ∙ other in rw (other_more, other) refl
      | false ↦ λ e. ap (λ o. cond (eq (key x) k) (Some x) o) (at-change_at_other eq key j k f xs tells keeps differ)
    ]
    in go (eq (key x) j) refl

-- a change of each record that keeps its key
pub at-map : {K A : Type 0} (eq : K → K → Bool) (key : A → K) (k : K) (f : A → A) (xs : List A) → ((x : A) → key (f x) ≡ key x) → at eq key k (map f xs) ≡ option_map f (at eq key k xs)
at-map eq key k f [] keeps = refl
at-map {K} {A} eq key k f (x ∷ xs) keeps =
    let go : (b : Bool) → eq (key x) k ≡ b → cond (eq (key (f x)) k) (Some (f x)) (at eq key k (map f xs)) ≡ option_map f (cond (eq (key x) k) (Some x) (at eq key k xs)) =
    elim [
      | true ↦ λ e. let kept : eq (key (f x)) k ≡ true = ap (λ y. eq y k) (keeps x) ∙ e in rw (e, kept) refl
      | false ↦ λ e. let kept : eq (key (f x)) k ≡ false = ap (λ y. eq y k) (keeps x) ∙ e in rw (e, kept) (at-map eq key k f xs keeps)
    ]
    in go (eq (key x) k) refl

pub at-append : {K A : Type 0} (eq : K → K → Bool) (key : A → K) (k : K) (xs ys : List A) → at eq key k (xs ++ ys) ≡ option_or (at eq key k xs) (at eq key k ys)
at-append eq key k [] ys = refl
at-append {K} {A} eq key k (x ∷ xs) ys =
    let go : (b : Bool) → cond b (Some x) (at eq key k (xs ++ ys)) ≡ option_or (cond b (Some x) (at eq key k xs)) (at eq key k ys) =
    elim [ true ↦ refl | false ↦ at-append eq key k xs ys ]
    in go (eq (key x) k)

pub names_tell : Tells bytes_eq
names_tell = record { same = λ a b. (bytes_eq-Decides a b).0; self = λ a. (bytes_eq-Decides a a).1 refl }

pub powers_tell : Tells eqb
powers_tell = record { same = eqb-true; self = λ a. eq-eqb a a refl }

-- a change at a place
pub change_at-place : {K A : Type 0} (eq : K → K → Bool) (key : A → K) (k : K) (f : A → A) (xs : List A) (d : A) → place eq key k xs < length xs → change_at eq key k f xs ≡ slice_set xs (place eq key k xs) (f (get_or xs (place eq key k xs) d))
change_at-place eq key k f [] d lt = refl
change_at-place {K} {A} eq key k f (x ∷ xs) d lt =
    let go : (b : Bool) → cond b 0 (place eq key k xs + 1) < suc (length xs) → cond b (f x ∷ xs) (x ∷ change_at eq key k f xs) ≡ slice_set (x ∷ xs) (cond b 0 (place eq key k xs + 1)) (f (get_or (x ∷ xs) (cond b 0 (place eq key k xs + 1)) d)) =
    elim [
      | true ↦ λ w. refl
      | false ↦ λ w. rw (add-one (place eq key k xs)) (ap (λ ys. x ∷ ys) (change_at-place eq key k f xs d (omega arith)))
    ]
    in go (eq (key x) k) lt

pub change_at-absent : {K A : Type 0} (eq : K → K → Bool) (key : A → K) (k : K) (f : A → A) (xs : List A) → length xs ≤ place eq key k xs → change_at eq key k f xs ≡ xs
change_at-absent eq key k f [] le = refl
change_at-absent {K} {A} eq key k f (x ∷ xs) le =
    let go : (b : Bool) → suc (length xs) ≤ cond b 0 (place eq key k xs + 1) → cond b (f x ∷ xs) (x ∷ change_at eq key k f xs) ≡ x ∷ xs =
    elim [
      | true ↦ λ w. absurd (omega arith)
      | false ↦ λ w. ap (λ ys. x ∷ ys) (change_at-absent eq key k f xs (omega arith))
    ]
    in go (eq (key x) k) le

-- a change in place of what the records say
pub said_set : {K A B : Type 0} (say : B → A) (eq : K → K → Bool) (key : A → K) (k : K) (f : A → A) (xs : List B) (i : ℕ) (old next : B)
    → i ≡ place eq key k (map say xs) → i < length xs → old ≡ get_or xs i old → say next ≡ f (say old)
    → map say (slice_set xs i next) ≡ change_at eq key k f (map say xs)
said_set {K} {A} {B} say eq key k f xs i old next here lt is made =
    let size : length (map say xs) ≡ length xs = length-map xs say in
    let within : place eq key k (map say xs) < length (map say xs) = omega (arith, size, here, lt) in
    let said : get_or (map say xs) i (say old) ≡ say old = get_or-map say xs i old (say old) lt ∙ ap say (sym is) in
    map-set say xs i next
    ∙ ap (λ (y : A). slice_set (map say xs) i y) (made ∙ ap f (sym said))
    ∙ ap (λ (j : ℕ). slice_set (map say xs) j (f (get_or (map say xs) j (say old)))) here
    ∙ sym (change_at-place eq key k f (map say xs) (say old) within)

-- and where no record has the key
pub said_kept : {K A B : Type 0} (say : B → A) (eq : K → K → Bool) (key : A → K) (k : K) (f : A → A) (xs : List B) (i : ℕ)
    → i ≡ place eq key k (map say xs) → length xs ≤ i → map say xs ≡ change_at eq key k f (map say xs)
said_kept say eq key k f xs i here le =
    let size : length (map say xs) ≡ length xs = length-map xs say in
    let beyond : length (map say xs) ≤ place eq key k (map say xs) = omega (arith, size, here, le) in
    sym (change_at-absent eq key k f (map say xs) beyond)
