-- What a search by halves finds among the codes of a map, which ascend.
use Rattle.std.proofs.Common.{◌≡◌, ◌⊎◌, inl, inr, ℕ, ◌+◌, ◌<◌, ◌≤◌, nat_lt, Bool, true, false, not, cond, zero, suc, get_or, length, List, [], ◌∷◌, Option, Some, None, Result, Ok, Err, refl, ◌∙◌, sym, ap, subst, arith, Ordering, Less, Equal, Greater}
use Rattle.std.proofs.lemmas.Bool.{and_parts, cases_Bool}
use Rattle.std.proofs.lemmas.Bool.Decides.{nat_tests}
use Rattle.std.proofs.lemmas.Cmp.{nat_list_cmp_total, ranked}
use Rattle.std.proofs.lemmas.Slice.Eq.{bytes_eq-Decides}
use Rattle.std.specs.List.{list_all, position, prefix_len}
use Rattle.std.specs.List.Sorted.{IsBinarySearchResult, IsNonDecreasingBy, IsSearchInRange}
use Rattle.std.specs.Cmp.Lexicographic.{slice_cmp}
use Rattle.std.specs.Ordering.{is_lt, nat_cmp, ordering_index, ordering_reverse, ordering_then}
use Rattle.std.specs.Str.{bytes_eq}
use Rattle.dip_map_chart.specs.Charts.{Chart, IsMap, Province, are_ascending_by, no_province, prov_of, province}

abbrev cmp : List ℕ → List ℕ → Ordering
cmp a b = slice_cmp nat_cmp a b

same_text : (a b : List ℕ) → cmp a b ≡ Equal → a ≡ b
same_text [] [] e = refl
same_text [] (y ∷ ys) e = absurd (cc)
same_text (x ∷ xs) [] e = absurd (cc)
same_text (x ∷ xs) (y ∷ ys) e = go (nat_cmp x y) refl e (same_text xs ys)
  where
    go : (o : Ordering) → nat_cmp x y ≡ o → ordering_then o (cmp xs ys) ≡ Equal → (cmp xs ys ≡ Equal → xs ≡ ys) → (x ∷ xs) ≡ (y ∷ ys)
    go Less is e more = absurd (cc)
    go Equal is e more = let head : x ≡ y = ranked x y Equal (sym is) in rw head (ap (λ (zs : List ℕ). y ∷ zs) (more e))
    go Greater is e more = absurd (cc)

itself : (a : List ℕ) → cmp a a ≡ Equal
itself a = go (cmp a a) (nat_list_cmp_total.antisymm a a)
  where
    go : (o : Ordering) → o ≡ ordering_reverse o → o ≡ Equal
    go Less h = absurd (cc)
    go Equal h = refl
    go Greater h = absurd (cc)

less : (o : Ordering) → is_lt o ≡ true → o ≡ Less
less Less is = refl
less Equal is = absurd (cc)
less Greater is = absurd (cc)

-- of two texts in order the first is no further on than the second, beside any other
no_further : (a b c : List ℕ) → cmp a b ≡ Less → ordering_index (cmp a c) ≤ ordering_index (cmp b c)
no_further a b c first = go (cmp b c) refl
  where
    before : cmp a c ≡ Less → (o : Ordering) → ordering_index (cmp a c) ≤ ordering_index o
    before is o = rw is (omega arith)

    most : (o : Ordering) → ordering_index o ≤ 2
    most Less = omega arith
    most Equal = omega arith
    most Greater = omega arith

    go : (o : Ordering) → cmp b c ≡ o → ordering_index (cmp a c) ≤ ordering_index o
    go Less is = before (nat_list_cmp_total.trans a b c first is) Less
    go Equal is =
        let turned : cmp a c ≡ cmp a b =
        nat_list_cmp_total.antisymm a c ∙ ap ordering_reverse (sym (nat_list_cmp_total.congr b c a is)) ∙ sym (nat_list_cmp_total.antisymm a b) in
        before (turned ∙ first) Equal
    go Greater is = most (cmp a c)

-- what holds of all holds of each
at_each : {A : Type 0} (t : A → Bool) (xs : List A) (j : ℕ) (d : A) → list_all t xs ≡ true → j < length xs → t (get_or xs j d) ≡ true
at_each t [] j d all low = absurd (omega (arith, low))
at_each t (x ∷ xs) zero d all low = (and_parts (t x) (list_all t xs) all).0
at_each t (x ∷ xs) (suc j) d all low = at_each t xs j d (and_parts (t x) (list_all t xs) all).1 (omega (arith, low))

ascends : {A : Type 0} (key : A → List ℕ) (xs : List A) (i j : ℕ) (d : A) → are_ascending_by key xs ≡ true → i < j → j < length xs
    → cmp (key (get_or xs i d)) (key (get_or xs j d)) ≡ Less
ascends key [] i j d up later low = absurd (omega (arith, low))
ascends key (x ∷ xs) i zero d up later low = absurd (omega (arith, later))
ascends key (x ∷ xs) zero (suc j) d up later low =
    let parts = and_parts (list_all (λ y. is_lt (cmp (key x) (key y))) xs) (are_ascending_by key xs) up in
    less (cmp (key x) (key (get_or xs j d))) (at_each (λ y. is_lt (cmp (key x) (key y))) xs j d parts.0 (omega (arith, low)))
ascends key (x ∷ xs) (suc i) (suc j) d up later low =
    let parts = and_parts (list_all (λ y. is_lt (cmp (key x) (key y))) xs) (are_ascending_by key xs) up in
    ascends key xs i j d parts.1 (omega (arith, later)) (omega (arith, low))

-- where none passes there is no place
none_passes : {A : Type 0} (t : A → Bool) (xs : List A) → ((k : ℕ) (d : A) → k < length xs → t (get_or xs k d) ≡ false) → prefix_len (λ x. not (t x)) xs ≡ length xs
none_passes t [] none = refl
none_passes {A} t (x ∷ xs) none = go (t x) (none 0 x (omega arith)) (none_passes t xs (λ k d low. none (suc k) d (omega (arith, low))))
  where
    go : (b : Bool) → b ≡ false → prefix_len (λ y. not (t y)) xs ≡ length xs → cond (not b) (1 + prefix_len (λ y. not (t y)) xs) 0 ≡ length (x ∷ xs)
    go true is more = absurd (cc)
    go false is more = omega (arith, more)

no_place : {A : Type 0} (t : A → Bool) (xs : List A) → ((k : ℕ) (d : A) → k < length xs → t (get_or xs k d) ≡ false) → position t xs ≡ None
no_place t xs none = let all : prefix_len (λ x. not (t x)) xs ≡ length xs = none_passes t xs none in rw (all, never (length xs)) refl
  where
    never : (n : ℕ) → nat_lt n n ≡ false
    never n = grind (arith, nat_tests)

module _ (m : Chart) (is : IsMap m) (code : List ℕ) where
  abbrev beside : Province → Ordering
  beside p = cmp p.code code

  rise : IsNonDecreasingBy (λ p. ordering_index (beside p)) m.provinces
  rise i j d le low = go (earlier i j le)
    where
      earlier : (i j : ℕ) → i ≤ j → (i ≡ j) ⊎ (i < j)
      earlier zero zero le = inl refl
      earlier zero (suc j) le = inr (omega arith)
      earlier (suc i) zero le = absurd (omega (arith, le))
      earlier (suc i) (suc j) le = next (earlier i j (omega (arith, le)))
        where
          next : (i ≡ j) ⊎ (i < j) → (suc i ≡ suc j) ⊎ (suc i < suc j)
          next (inl same) = inl (ap suc same)
          next (inr less) = inr (omega (arith, less))

      go : (i ≡ j) ⊎ (i < j) → ordering_index (beside (get_or m.provinces i d)) ≤ ordering_index (beside (get_or m.provinces j d))
      go (inl same) = rw same (omega arith)
      go (inr later) = no_further (get_or m.provinces i d).code (get_or m.provinces j d).code code (ascends (λ r. r.code) m.provinces i j d is.codes_ascend later low)

  abbrev found : Result ℕ ℕ → Option ℕ
  found (Ok i) = Some i
  found (Err i) = None

  differs : (o : Ordering) (p : Province) → beside p ≡ o → (o ≡ Equal → ⊥) → bytes_eq p.code code ≡ false
  differs o p is apart = go (cases_Bool (bytes_eq p.code code))
    where
      go : (bytes_eq p.code code ≡ true) ⊎ (bytes_eq p.code code ≡ false) → bytes_eq p.code code ≡ false
      go (inl same) =
          let texts : p.code ≡ code = (bytes_eq-Decides p.code code).0 same in
          absurd (apart (sym is ∙ ap (λ (c : List ℕ). cmp c code) texts ∙ itself code))
      go (inr not_same) = not_same

  code_in_map : (r : Result ℕ ℕ) → IsSearchInRange r (length m.provinces) → IsBinarySearchResult beside m.provinces r → found r ≡ prov_of m code
  code_in_map (Ok i) low equal =
      let here : (province m i).code ≡ code = same_text (province m i).code code (equal no_province) in
      sym (ap (prov_of m) (sym here) ∙ is.codes_found i low)
  code_in_map (Err i) low parted =
      let sides = parted rise in
      sym (no_place (λ p. bytes_eq p.code code) m.provinces (λ k d there. go sides k d there (cases_lt k i)))
    where
      cases_lt : (a b : ℕ) → (a < b) ⊎ (b ≤ a)
      cases_lt zero zero = inr (omega arith)
      cases_lt zero (suc b) = inl (omega arith)
      cases_lt (suc a) zero = inr (omega arith)
      cases_lt (suc a) (suc b) = next (cases_lt a b)
        where
          next : (a < b) ⊎ (b ≤ a) → (suc a < suc b) ⊎ (suc b ≤ suc a)
          next (inl l) = inl (omega (arith, l))
          next (inr l) = inr (omega (arith, l))

      go : ((k : ℕ) (d : Province) → 0 ≤ k → k < i → beside (get_or m.provinces k d) ≡ Less)
          × ((k : ℕ) (d : Province) → i ≤ k → k < length m.provinces → beside (get_or m.provinces k d) ≡ Greater)
          → (k : ℕ) (d : Province) → k < length m.provinces → (k < i) ⊎ (i ≤ k) → bytes_eq (get_or m.provinces k d).code code ≡ false
      go sides k d there (inl before) = differs Less (get_or m.provinces k d) (sides.0 k d (omega arith) before) (λ e. cc)
      go sides k d there (inr behind) = differs Greater (get_or m.provinces k d) (sides.1 k d behind there) (λ e. cc)

  -- the search answers the number of the province with that code
  pub code_is_found : (ps : List Province) → ps ≡ m.provinces → (r : Result ℕ ℕ) → IsSearchInRange r (length ps) → IsBinarySearchResult beside ps r → found r ≡ prov_of m code
  code_is_found ps same r =
      subst (λ (qs : List Province). IsSearchInRange r (length qs) → IsBinarySearchResult beside qs r → found r ≡ prov_of m code) (sym same) (code_in_map r)
