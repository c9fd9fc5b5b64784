-- What the statements on seats leave: each has its power and its key as before.
use Rattle.std.proofs.Common.{◌≡◌, ℕ, ◌<◌, ◌==◌, Bool, true, false, cond, ◌&&◌, List, [], ◌∷◌, map, filter, length, bytes_eq, refl, sym, ap, ap₂, subst, ◌∙◌, inl, inr}
use Rattle.std.specs.List.{AllByRecursion}
use Rattle.std.proofs.lemmas.Bool.{cases_Bool, and_parts, eqb-true, eq-eqb}
use Rattle.sqlite_trees.specs.Tree.{IsAscending}
use Rattle.sqlite_keyed.proofs.ListLemmas.{all_both, all_map, all_weaker, ascending-map, ascending_weaker}
use Rattle.dip_map.specs.Charts.{Chart, IsMap}
use Rattle.dip_store_tables.specs.Boards.{power_name, power_in}
use Rattle.dip_desk_state.proofs.KeyedLemmas.{names_tell}
use Rattle.dip_store_rows.specs.Tables.{SeatRow, is_seat, is_seat_in}
use Rattle.dip_store_tables.specs.Coding.{IsSeatOf, same_seat}
use Rattle.dip_store_tables.proofs.Records.{power_back}

pub both_same : (a b c d : List ℕ) → (bytes_eq a c && bytes_eq b d) ≡ true → (a ≡ c) × (b ≡ d)
both_same a b c d h = let parts = and_parts _ _ h in (names_tell.same a c parts.0, names_tell.same b d parts.1)

pub both_tell : (a b : List ℕ) → (bytes_eq a a && bytes_eq b b) ≡ true
both_tell a b = rw (names_tell.self a, names_tell.self b) refl

-- a test of two keys, the other way round
pub keys_turned : (a b c d : List ℕ) → (bytes_eq a c && bytes_eq b d) ≡ false → (bytes_eq c a && bytes_eq d b) ≡ false
keys_turned a b c d h = elim (cases_Bool (bytes_eq c a && bytes_eq d b)) [
  | inl e ↦ absurd (
      let same = both_same c d a b e in
      let tied : (bytes_eq a c && bytes_eq b d) ≡ true = subst (λ x. (bytes_eq a x && bytes_eq b d) ≡ true) (sym same.0) (subst (λ y. (bytes_eq a a && bytes_eq b y) ≡ true) (sym same.1) (both_tell a b)) in
      let x = sym tied ∙ h in cc)
  | inr e ↦ e
]

pub name_turned : (a b : List ℕ) → bytes_eq a b ≡ false → bytes_eq b a ≡ false
name_turned a b h = elim (cases_Bool (bytes_eq b a)) [
  | inl e ↦ absurd (let tied : bytes_eq a b ≡ true = subst (λ x. bytes_eq a x ≡ true) (sym (names_tell.same b a e)) (names_tell.self a) in let x = sym tied ∙ h in cc)
  | inr e ↦ e
]

-- a seat is the only one of its key
abbrev pub IsAlone : List SeatRow → SeatRow → Type 0
IsAlone seats s = filter (is_seat s.game s.power) seats ≡ s ∷ []

none_found : (x : SeatRow) (xs : List SeatRow) → AllByRecursion (λ y. same_seat x y ≡ false) xs → filter (is_seat x.game x.power) xs ≡ []
none_found x [] up = refl
none_found x (y ∷ ys) up = rw (keys_turned x.game x.power y.game y.power up.0) (none_found x ys up.1)

pub all_alone : (seats : List SeatRow) → IsAscending (λ a b. same_seat a b ≡ false) seats → AllByRecursion (IsAlone seats) seats
all_alone [] up = tt
all_alone (x ∷ xs) up = (
  rw (both_tell x.game x.power) (ap (λ ys. x ∷ ys) (none_found x xs up.0)),
  all_both (λ y. same_seat x y ≡ false) (IsAlone xs) (IsAlone (x ∷ xs)) (λ y far one. rw far one) xs up.0 (all_alone xs up.1),
)

-- a change of seats that keeps their keys
module _ (f : SeatRow → SeatRow) (game : (s : SeatRow) → (f s).game ≡ s.game) (power : (s : SeatRow) → (f s).power ≡ s.power) where
  pub coded_map : (m : Chart) (seats : List SeatRow) → AllByRecursion (IsSeatOf m) seats → AllByRecursion (IsSeatOf m) (map f seats)
  coded_map m seats all = all_map (IsSeatOf m) f seats (all_weaker (IsSeatOf m) (λ s. IsSeatOf m (f s)) (λ s it. (it.0, it.1, power s ∙ it.2)) seats all)

  pub apart_map : (seats : List SeatRow) → IsAscending (λ a b. same_seat a b ≡ false) seats → IsAscending (λ a b. same_seat a b ≡ false) (map f seats)
  apart_map seats up =
      ascending-map (λ a b. same_seat a b ≡ false) f seats
      (ascending_weaker (λ a b. same_seat a b ≡ false) (λ a b. same_seat (f a) (f b) ≡ false)
      (λ a b h. ap₂ ◌&&◌ (ap₂ bytes_eq (game a) (game b)) (ap₂ bytes_eq (power a) (power b)) ∙ h) seats up)

-- a column that is one in both cases
pub either_way : {B : Type 0} (g : SeatRow → B) (b : Bool) (x y : SeatRow) → g x ≡ g y → g (cond b x y) ≡ g y
either_way g true x y e = e
either_way g false x y e = refl

module _ (m : Chart) (ok : IsMap m) where
  -- a seat's power, found by its name and by its number
  pub same_power : (p : ℕ) → p < length m.realms → (s : SeatRow) → IsSeatOf m s → bytes_eq s.power (power_name m p) ≡ (power_in m s.power == p)
  same_power p low s it = elim (cases_Bool (bytes_eq s.power (power_name m p))) [
    | inl e ↦ e ∙ sym (eq-eqb _ p (ap (power_in m) (names_tell.same s.power (power_name m p) e) ∙ power_back m ok p low))
    | inr e ↦ elim (cases_Bool (power_in m s.power == p)) [
      | inl f ↦ absurd (
          let is : it.0 ≡ p = sym (power_back m ok it.0 it.1) ∙ ap (power_in m) (sym it.2) ∙ eqb-true _ p f in
          let name : s.power ≡ power_name m p = it.2 ∙ ap (power_name m) is in
          let tied : bytes_eq s.power (power_name m p) ≡ true = subst (λ n. bytes_eq n (power_name m p) ≡ true) (sym name) (names_tell.self (power_name m p)) in
          let x = sym tied ∙ e in cc)
      | inr f ↦ e ∙ sym f
    ]
  ]

  -- in a game no two seats have one power
  pub powers_apart : (n : List ℕ) (xs : List SeatRow) → IsAscending (λ a b. same_seat a b ≡ false) xs → AllByRecursion (IsSeatOf m) xs → AllByRecursion (λ s. is_seat_in n s ≡ true) xs
      → IsAscending (λ a b. (power_in m a.power == power_in m b.power) ≡ false) xs
  powers_apart n [] up coded all = tt
  powers_apart n (x ∷ xs) up coded all = (go xs up.0 coded.1 all.1, powers_apart n xs up.1 coded.1 all.1)
    where
      go : (ys : List SeatRow) → AllByRecursion (λ y. same_seat x y ≡ false) ys → AllByRecursion (IsSeatOf m) ys → AllByRecursion (λ s. is_seat_in n s ≡ true) ys
          → AllByRecursion (λ y. (power_in m x.power == power_in m y.power) ≡ false) ys
      go [] far coded2 mine = tt
      go (y ∷ ys) far coded2 mine =
          let here : bytes_eq x.game y.game ≡ true =
          subst (λ g. bytes_eq x.game g ≡ true) (names_tell.same x.game n all.0 ∙ sym (names_tell.same y.game n mine.0)) (names_tell.self x.game) in
          let other : bytes_eq x.power y.power ≡ false = sym (ap (λ b. b && bytes_eq x.power y.power) here) ∙ far.0 in
          let it = coded2.0 in
          let number : power_in m y.power ≡ it.0 = ap (power_in m) it.2 ∙ power_back m ok it.0 it.1 in
          let is : (power_in m x.power == power_in m y.power) ≡ bytes_eq x.power y.power =
          ap (λ p. power_in m x.power == p) number ∙ sym (same_power it.0 it.1 x coded.0) ∙ ap (bytes_eq x.power) (sym it.2) in
          (is ∙ other, go ys far.1 coded2.1 mine.1)
