-- A chain of any length is found by the search with its bound, and the search finds nothing but chains.
use Rattle.std.proofs.Common.{◌≡◌, ℕ, ◌≤◌, ◌+◌, ◌-◌, List, [], ◌∷◌, length, refl, sym, subst, ap, ◌∙◌, inl, inr, zero, suc, arith}
use Rattle.std.specs.Prelude.{◌==◌, Bool, true, false, ◌&&◌, ◌||◌}
use Rattle.std.proofs.lemmas.Bool.{cases_Bool, both_ways, or_cases, or_left, or_right, and_parts, and_from, eqb-true}
use mathlib.Core.Logic.{◌⊎◌}
use Rattle.dip_decide_rules.specs.declared.decisions.Decision.{Decision}
use Rattle.dip_decide_rules.specs.declared.decisions.Decision.TheVariants.{Move, Path, Support}
use Rattle.dip_decide_rules.specs.Deciding.{is_among, AreDistinct}
use Rattle.dip_decide_rules.specs.Laws.{AreJoined, IsChain}
use Rattle.dip_decide_rules.specs.Movement.{joins, is_listed}
use Rattle.dip_decide_rules.specs.Rings.{from_on}
use Rattle.dip_decide_rules.specs.Steps.{moves_of}
use Rattle.dip_decide_rules.proofs.Progress.{Found, find, no_more}
use Rattle.dip_decide_rules.proofs.Rises.{any_le, any_listed}
use Rattle.dip_decide_rules.proofs.RingLaws.{among_moves, from_distinct}

abbrev has_some : List ℕ → Bool
has_some [] = false
has_some (x ∷ xs) = true

module _ (test : ℕ → Bool) (next : ℕ → ℕ → Bool) (places : List ℕ) (q : ℕ) where
  -- what the search finds
  pub found_chain : (n p : ℕ) → joins test next places q n p ≡ true → (xs : List ℕ) × IsChain test next q p xs
  found_chain zero p h = absurd (both_ways false refl h)
  found_chain (suc n) p h = go (or_cases _ _ e.1) (found_chain n f.one)
    where
      f : Found (λ x. (test x && next p x) && (next x q || joins test next places q n x))
      f = find (λ x. (test x && next p x) && (next x q || joins test next places q n x)) places h

      e : ((test f.one && next p f.one) ≡ true) × ((next f.one q || joins test next places q n f.one) ≡ true)
      e = and_parts _ _ f.passes

      t : (test f.one ≡ true) × (next p f.one ≡ true)
      t = and_parts _ _ e.0

      go : (next f.one q ≡ true) ⊎ (joins test next places q n f.one ≡ true) → (joins test next places q n f.one ≡ true → (xs : List ℕ) × IsChain test next q f.one xs) → (xs : List ℕ) × IsChain test next q p xs
      go (inl y) _ = (f.one ∷ [], (omega arith, (t.0, t.1, y)))
      go (inr y) r = let c = r y in (f.one ∷ c.0, (omega arith, (t.0, t.1, c.1.1)))

  module _ (listed : (x : ℕ) → test x ≡ true → is_listed places x ≡ true) where
    -- a chain is found within its length
    within_length : (x : ℕ) (xs : List ℕ) (p : ℕ) → AreJoined test next q p (x ∷ xs) → joins test next places q (length (x ∷ xs)) p ≡ true
    within_length x [] p j = any_listed (λ y. (test y && next p y) && (next y q || false)) places x (listed x j.0) (and_from _ _ (and_from _ _ j.0 j.1) (or_left _ _ j.2))
    within_length x (y ∷ ys) p j = any_listed (λ z. (test z && next p z) && (next z q || joins test next places q (length (y ∷ ys)) z)) places x (listed x j.0) (and_from _ _ (and_from _ _ j.0 j.1) (or_right (next x q) _ (within_length y ys x j.2)))

    one_more : (n p : ℕ) → joins test next places q n p ≡ true → joins test next places q (suc n) p ≡ true
    one_more zero p h = absurd (both_ways false refl h)
    one_more (suc n) p h = any_le _ _ places (λ x e. let f = and_parts _ _ e in and_from _ _ f.0 (onto x (or_cases _ _ f.1) (one_more n x))) h
      where
        onto : (x : ℕ) → (next x q ≡ true) ⊎ (joins test next places q n x ≡ true) → (joins test next places q n x ≡ true → joins test next places q (suc n) x ≡ true) → (next x q || joins test next places q (suc n) x) ≡ true
        onto x (inl g) _ = or_left _ _ g
        onto x (inr g) r = or_right (next x q) _ (r g)

    up_to : (d n p : ℕ) → joins test next places q n p ≡ true → joins test next places q (n + d) p ≡ true
    up_to zero n p h = subst (λ (x : ℕ). joins test next places q x p ≡ true) (let e : n ≡ n + zero = omega arith in e) h
    up_to (suc d) n p h = subst (λ (x : ℕ). joins test next places q x p ≡ true) (let e : suc n + d ≡ n + suc d = omega arith in e) (up_to d (suc n) p (one_more n p h))

    -- after one of those of a chain the rest leads on
    from_joined : (xs : List ℕ) (p x : ℕ) → AreJoined test next q p xs → is_listed xs x ≡ true → (zs : List ℕ) × (from_on x xs ≡ x ∷ zs) × AreJoined test next q x zs
    from_joined [] p x j h = absurd (both_ways false refl h)
    from_joined (y ∷ ys) p x j h = go (cases_Bool (y == x)) (from_joined ys y x j.2)
      where
        go : ((y == x) ≡ true) ⊎ ((y == x) ≡ false) → (is_listed ys x ≡ true → (zs : List ℕ) × (from_on x ys ≡ x ∷ zs) × AreJoined test next q x zs) → (zs : List ℕ) × (from_on x (y ∷ ys) ≡ x ∷ zs) × AreJoined test next q x zs
        go (inl e) _ = let f = eqb-true y x e in (ys, rw e (ap (λ (z : ℕ). z ∷ ys) f), subst (λ (z : ℕ). AreJoined test next q z ys) f j.2)
        go (inr e) r = let z = r (rw e at h) in (z.0, rw e z.1, z.2)

    -- a chain without repeats
    pub record Apart (p : ℕ) (some : Bool) : Type 0 where
      pub xs : List ℕ
      pub joined : AreJoined test next q p xs
      pub distinct : AreDistinct (moves_of xs)
      pub non_empty : some ≡ true → 1 ≤ length xs

    apart : (xs : List ℕ) (p : ℕ) → AreJoined test next q p xs → Apart p (has_some xs)
    apart [] p j = record { xs = []; joined = j; distinct = tt; non_empty = λ h. absurd (both_ways false refl h) }
    apart (x ∷ xs) p j = go (apart xs x j.2)
      where
        go : Apart x (has_some xs) → Apart p (has_some (x ∷ xs))
        go r = which (cases_Bool (is_listed r.xs x))
          where
            which : (is_listed r.xs x ≡ true) ⊎ (is_listed r.xs x ≡ false) → Apart p (has_some (x ∷ xs))
            which (inr n) = record { xs = x ∷ r.xs; joined = (j.0, j.1, r.joined); distinct = (among_moves r.xs x ∙ n, r.distinct); non_empty = λ _. omega arith }
            which (inl y) =
                let f = from_joined r.xs x x r.joined y in
                let d : AreDistinct (moves_of (x ∷ f.0)) = rw f.1 at (from_distinct r.xs x r.distinct) in
                record { xs = x ∷ f.0; joined = (j.0, j.1, f.2); distinct = d; non_empty = λ _. omega arith }

    all_pass : (xs : List ℕ) (p x : ℕ) → AreJoined test next q p xs → is_listed xs x ≡ true → test x ≡ true
    all_pass [] p x j h = absurd (both_ways false refl h)
    all_pass (y ∷ ys) p x j h = go (or_cases _ _ h) (all_pass ys y x j.2)
      where
        go : ((y == x) ≡ true) ⊎ (is_listed ys x ≡ true) → (is_listed ys x ≡ true → test x ≡ true) → test x ≡ true
        go (inl e) _ = subst (λ (z : ℕ). test z ≡ true) (eqb-true y x e) j.0
        go (inr e) r = r e

    length_moves : (xs : List ℕ) → length (moves_of xs) ≡ length xs
    length_moves [] = refl
    length_moves (x ∷ xs) = ap suc (length_moves xs)

    short : (xs : List ℕ) (p : ℕ) → AreJoined test next q p xs → AreDistinct (moves_of xs) → length xs ≤ length places
    short xs p j d =
        let l = no_more (moves_of xs) (moves_of places) d inside in
        let e = length_moves xs in
        let f = length_moves places in
        omega arith
      where
        inside : (c : Decision) → is_among c (moves_of xs) ≡ true → is_among c (moves_of places) ≡ true
        inside (Move x) h = among_moves places x ∙ listed x (all_pass xs p x j (sym (among_moves xs x) ∙ h))
        inside (Path x) h = absurd (both_ways _ (no_path xs x) h)
          where
            no_path : (xs : List ℕ) (x : ℕ) → is_among (Path x) (moves_of xs) ≡ false
            no_path [] x = refl
            no_path (y ∷ ys) x = no_path ys x
        inside (Support x) h = absurd (both_ways _ (no_support xs x) h)
          where
            no_support : (xs : List ℕ) (x : ℕ) → is_among (Support x) (moves_of xs) ≡ false
            no_support [] x = refl
            no_support (y ∷ ys) x = no_support ys x

    -- a chain of any length is found
    pub chain_found : (p : ℕ) (xs : List ℕ) → IsChain test next q p xs → joins test next places q (suc (length places)) p ≡ true
    chain_found p [] c = absurd (let l = c.0 in omega arith)
    chain_found p (x ∷ xs) c = from (apart (x ∷ xs) p c.1)
      where
        from : Apart p true → joins test next places q (suc (length places)) p ≡ true
        from r = at r.xs r.joined r.distinct (r.non_empty refl)
          where
            at : (ys : List ℕ) → AreJoined test next q p ys → AreDistinct (moves_of ys) → 1 ≤ length ys → joins test next places q (suc (length places)) p ≡ true
            at [] j d n = absurd (omega arith)
            at (y ∷ ys) j d n =
                let l = short (y ∷ ys) p j d in
                let e : length (y ∷ ys) + (suc (length places) - length (y ∷ ys)) ≡ suc (length places) = omega arith in
                subst (λ (m : ℕ). joins test next places q m p ≡ true) e (up_to (suc (length places) - length (y ∷ ys)) (length (y ∷ ys)) p (within_length y ys p j))
