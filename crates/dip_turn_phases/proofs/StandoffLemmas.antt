-- Standoffs after a movement: once each, in the order of the provinces, of the map, and empty.
use Rattle.std.proofs.Common.{◌≡◌, ℕ, zero, suc, ◌<◌, ◌≤◌, ◌+◌, ◌==◌, Bool, true, false, not, nat_lt, cond, List, [], ◌∷◌, length, filter, refl, inl, inr, arith}
use Rattle.std.proofs.lemmas.Bool.{and_from, and_parts, cases_Bool, lt-ltb, not-true}
use Rattle.std.proofs.lemmas.List.Elements.{All-filter, All-from_recursion}
use Rattle.std.specs.List.{AllByRecursion, list_all, list_any, range_with_len}
use Rattle.dip_map.specs.Charts.{provs}
use Rattle.dip_map.specs.Boards.{are_ascending}
use Rattle.dip_turn_phases.specs.Laws.{StandoffsAreLawful}
use Rattle.dip_turn_phases.specs.Moving.{contends, is_standoff_after, standing_after}

numbers_within : (a k n : ℕ) → a + k ≤ n → AllByRecursion (λ p. p < n) (range_with_len a k)
numbers_within a zero n h = tt
numbers_within a (suc k) n h = (omega (arith, h), numbers_within (a + 1) k n (omega (arith, h)))

numbers_above : (a k j : ℕ) → j < a → list_all (λ q. nat_lt j q) (range_with_len a k) ≡ true
numbers_above a zero j h = refl
numbers_above a (suc k) j h = and_from (nat_lt j a) (list_all (λ q. nat_lt j q) (range_with_len (a + 1) k)) (lt-ltb j a h) (numbers_above (a + 1) k j (omega (arith, h)))

numbers_ascend : (a k : ℕ) → are_ascending (range_with_len a k) ≡ true
numbers_ascend a zero = refl
numbers_ascend a (suc k) = and_from (list_all (λ q. nat_lt a q) (range_with_len (a + 1) k)) (are_ascending (range_with_len (a + 1) k)) (numbers_above (a + 1) k a (omega arith)) (numbers_ascend (a + 1) k)

all_kept : (f g : ℕ → Bool) (xs : List ℕ) → list_all g xs ≡ true → list_all g (filter f xs) ≡ true
all_kept f g [] h = refl
all_kept f g (x ∷ xs) h =
    let (here, more) = and_parts (g x) (list_all g xs) h in
    elim (cases_Bool (f x)) [
      | inl yes_here ↦ rw yes_here (and_from (g x) (list_all g (filter f xs)) here (all_kept f g xs more))
      | inr other ↦ rw other (all_kept f g xs more)
    ]

ascend_kept : (f : ℕ → Bool) (xs : List ℕ) → are_ascending xs ≡ true → are_ascending (filter f xs) ≡ true
ascend_kept f [] h = refl
ascend_kept f (x ∷ xs) h =
    let (here, more) = and_parts (list_all (λ q. nat_lt x q) xs) (are_ascending xs) h in
    elim (cases_Bool (f x)) [
      | inl yes_here ↦
          rw yes_here (and_from (list_all (λ q. nat_lt x q) (filter f xs)) (are_ascending (filter f xs)) (all_kept f (λ q. nat_lt x q) xs here) (ascend_kept f xs more))
      | inr other ↦ rw other (ascend_kept f xs more)
    ]

passing : (f : ℕ → Bool) (xs : List ℕ) → AllByRecursion (λ x. f x ≡ true) (filter f xs)
passing f [] = tt
passing f (x ∷ xs) = go (f x) refl (passing f xs)
  where
    go : (c : Bool) → f x ≡ c → AllByRecursion (λ y. f y ≡ true) (filter f xs) → AllByRecursion (λ y. f y ≡ true) (cond c (x ∷ filter f xs) (filter f xs))
    go true is rest = (is, rest)
    go false is rest = rest

pub standoffs_are_lawful : StandoffsAreLawful
standoffs_are_lawful m b a orders =
    let us = standing_after a orders in
    let test = is_standoff_after m a orders us in
    record {
      within = All-filter test (λ p. p < length m.provinces) (provs m) (All-from_recursion (λ p. p < length m.provinces) (provs m) (numbers_within 0 (length m.provinces) (length m.provinces) (omega arith)));
      once = ascend_kept test (provs m) (numbers_ascend 0 (length m.provinces));
      empty =
          λ k d low. not-true (list_any (λ u. u.place.prov == _) us)
          (and_parts (list_any (contends m a orders _) orders) (not (list_any (λ u. u.place.prov == _) us))
          (All-from_recursion (λ p. test p ≡ true) (filter test (provs m)) (passing test (provs m)) k d low)).1;
    }
