-- Counts over a list whose keys ascend.
use Rattle.std.proofs.Common.{◌≡◌, ℕ, ◌==◌, ◌<◌, ◌≤◌, ◌+◌, Bool, true, false, cond, List, [], ◌∷◌, map, refl, sym, ap, subst, ◌∙◌, arith}
use Rattle.std.specs.Prelude.{◌&&◌, not, count_by}
use Rattle.std.specs.List.{AllByRecursion}
use Rattle.std.proofs.lemmas.Bool.{eq-eqb, eqb-true}
use Rattle.dip_orders_placed.proofs.KeptLaws.{count_cons}
use Rattle.dip_desk_state.specs.Fitting.{AreAscending}
use Rattle.dip_desk_games.proofs.ListLemmas.{all_weaker}

-- what holds of each of two kinds holds of both together
pub all_both : {A : Type 0} (P Q R : A → Type 0) (xs : List A) → ((x : A) → P x → Q x → R x) → AllByRecursion P xs → AllByRecursion Q xs → AllByRecursion R xs
all_both P Q R [] both ps qs = tt
all_both P Q R (x ∷ xs) both ps qs = (both x ps.0 qs.0, all_both P Q R xs both ps.1 qs.1)

abbrev pub one : Bool → ℕ
one b = cond b 1 0

-- how many of a kind have another key
abbrev pub elsewhere : {A : Type 0} → (A → ℕ) → (A → Bool) → ℕ → List A → ℕ
elsewhere key kind k xs = count_by (λ x. kind x && not (key x == k)) xs

-- an element counts where its key is another
pub kind_apart : (a b : Bool) → b ≡ false → one (a && not b) ≡ one a
kind_apart true b differ = ap (λ (c : Bool). one (not c)) differ
kind_apart false b differ = refl

here_one : (a b : Bool) → b ≡ true → one (a && not b) ≡ 0
here_one true b same = ap (λ (c : Bool). one (not c)) same
here_one false b same = refl

at_most_one : (a b : Bool) → one (a && not b) ≤ one a
at_most_one true true = omega arith
at_most_one true false = omega arith
at_most_one false b = omega arith

-- a lesser number is another
pub unlike : (a b : ℕ) → a < b → (a == b) ≡ false
unlike a b less = go (a == b) refl
  where
    go : (c : Bool) → (a == b) ≡ c → c ≡ false
    go true same = let is : a ≡ b = eqb-true a b same in absurd (omega (arith, is, less))
    go false differ = refl

-- no key is this one
pub elsewhere_all : {A : Type 0} (key : A → ℕ) (kind : A → Bool) (k : ℕ) (xs : List A) → AllByRecursion (λ q. k < q) (map key xs) → elsewhere key kind k xs ≡ count_by kind xs
elsewhere_all key kind k [] rest = refl
elsewhere_all key kind k (x ∷ xs) rest =
    let other : (key x == k) ≡ false = go (key x == k) refl rest.0 in
    count_cons (λ x. kind x && not (key x == k)) x xs
    ∙ ap (λ (n : ℕ). n + elsewhere key kind k xs) (kind_apart (kind x) (key x == k) other)
    ∙ ap (λ (n : ℕ). one (kind x) + n) (elsewhere_all key kind k xs rest.1)
    ∙ sym (count_cons kind x xs)
  where
    go : (b : Bool) → (key x == k) ≡ b → k < key x → b ≡ false
    go true same less = let is : key x ≡ k = eqb-true (key x) k same in absurd (omega (arith, is, less))
    go false differ less = refl

-- one key at most is this one
pub elsewhere_but_one : {A : Type 0} (key : A → ℕ) (kind : A → Bool) (k : ℕ) (xs : List A) → AreAscending (map key xs) → count_by kind xs ≤ elsewhere key kind k xs + 1
elsewhere_but_one key kind k [] up = omega arith
elsewhere_but_one {A} key kind k (x ∷ xs) up =
    let head = count_cons kind x xs in
    let other = count_cons (λ x. kind x && not (key x == k)) x xs in
    let go : (b : Bool) → (key x == k) ≡ b → count_by kind (x ∷ xs) ≤ elsewhere key kind k (x ∷ xs) + 1 =
    elim [
      | true ↦ λ same.
          let is : key x ≡ k = eqb-true (key x) k same in
          let rest : elsewhere key kind k xs ≡ count_by kind xs = elsewhere_all key kind k xs (subst (λ (q : ℕ). AllByRecursion (λ (r : ℕ). q < r) (map key xs)) is up.0) in
          let few : one (kind x) ≤ 1 = small (kind x) in
          omega (arith, head, other, rest, few)
      | false ↦ λ differ.
          let rest : count_by kind xs ≤ elsewhere key kind k xs + 1 = elsewhere_but_one key kind k xs up.1 in
          let here : one (kind x && not (key x == k)) ≡ one (kind x) = kind_apart (kind x) (key x == k) differ in
          omega (arith, head, other, rest, here)
    ]
    in go (key x == k) refl
  where
    small : (b : Bool) → one b ≤ 1
    small true = omega arith
    small false = omega arith

-- there are no more of them than of the kind
pub elsewhere_few : {A : Type 0} (key : A → ℕ) (kind : A → Bool) (k : ℕ) (xs : List A) → elsewhere key kind k xs ≤ count_by kind xs
elsewhere_few key kind k [] = omega arith
elsewhere_few key kind k (x ∷ xs) =
    let head = count_cons kind x xs in
    let other = count_cons (λ x. kind x && not (key x == k)) x xs in
    let here : one (kind x && not (key x == k)) ≤ one (kind x) = at_most_one (kind x) (key x == k) in
    let rest : elsewhere key kind k xs ≤ count_by kind xs = elsewhere_few key kind k xs in
    omega (arith, head, other, here, rest)

-- each has fewer of its kind elsewhere than there are
pub each_but_itself : {A : Type 0} (key : A → ℕ) (kind : A → Bool) (xs : List A)
    → AllByRecursion (λ x. elsewhere key kind (key x) xs + one (kind x) ≤ count_by kind xs) xs
each_but_itself key kind [] = tt
each_but_itself {A} key kind (x ∷ xs) =
    let head = count_cons kind x xs in
    let more : (k : ℕ) → elsewhere key kind k (x ∷ xs) ≡ one (kind x && not (key x == k)) + elsewhere key kind k xs = λ k. count_cons (λ x. kind x && not (key x == k)) x xs in
    let itself : one (kind x && not (key x == key x)) ≡ 0 = here_one (kind x) (key x == key x) (eq-eqb (key x) (key x) refl) in
    let fewer : elsewhere key kind (key x) xs ≤ count_by kind xs = elsewhere_few key kind (key x) xs in
    let first : elsewhere key kind (key x) (x ∷ xs) ≡ one (kind x && not (key x == key x)) + elsewhere key kind (key x) xs = more (key x) in (
      omega (arith, head, first, itself, fewer),
      all_weaker (λ y. elsewhere key kind (key y) xs + one (kind y) ≤ count_by kind xs) (λ y. elsewhere key kind (key y) (x ∷ xs) + one (kind y) ≤ count_by kind (x ∷ xs)) xs
          (λ y less.
          let next : elsewhere key kind (key y) (x ∷ xs) ≡ one (kind x && not (key x == key y)) + elsewhere key kind (key y) xs = more (key y) in
          let one_more : one (kind x && not (key x == key y)) ≤ one (kind x) = at_most_one (kind x) (key x == key y) in
          omega (arith, head, next, one_more, less))
          (each_but_itself key kind xs),
    )
