-- The owners of centres are read back.
use Rattle.std.proofs.Common.{◌≡◌, inl, inr, ℕ, zero, suc, ◌+◌, ◌<◌, true, List, [], ◌∷◌, map, length, get_or, Option, Some, None, bytes_eq, All, refl, sym, ap, subst, ◌∙◌, arith}
use Rattle.std.proofs.lemmas.Bool.{cases_Bool}
use Rattle.std.proofs.lemmas.List.{same_lists, length-map, get_or-map}
use Rattle.std.proofs.lemmas.Slice.Eq.{bytes_eq-Decides}
use Rattle.dip_map.specs.Charts.{Chart, Province, IsMap, no_province, prov_of, power_of}
use Rattle.dip_map.specs.Boards.{Position, IsOf, is_power_if_any}
use Rattle.dip_store_tables.specs.Boards.{code, power_name, centre_rows_from, centre_rows, owner_in}
use Rattle.dip_store_tables.proofs.Parts.{all_parts, below}

module _ (m : Chart) (ok : IsMap m) where
  low_power : (r : ℕ) → is_power_if_any m (Some r) ≡ true → power_of m (power_name m r) ≡ Some r
  low_power r h = ok.names_found r (below _ _ h)

  -- codes are apart
  apart : (p q : ℕ) → p < length m.provinces → q < length m.provinces → bytes_eq (code m p) (code m q) ≡ true → p ≡ q
  apart p q lp lq e =
      let same : code m p ≡ code m q = (bytes_eq-Decides _ _).0 e in
      let is : Some p ≡ Some q = sym (ok.codes_found p lp) ∙ ap (prov_of m) same ∙ ok.codes_found q lq in
      cc

  itself : (c : List ℕ) → bytes_eq c c ≡ true
  itself c = (bytes_eq-Decides c c).1 refl

  -- no row after i has an earlier code
  absent : (game : List ℕ) (i j : ℕ) (os : List (Option ℕ)) → j < i → i + length os ≡ length m.provinces → owner_in m (centre_rows_from m game i os) (code m j) ≡ None
  absent game i j [] low count = refl
  absent game i j (None ∷ os) low count = absent game (suc i) j os (omega (arith, low)) (omega (arith, count))
  absent game i j (Some r ∷ os) low count = elim (cases_Bool (bytes_eq (code m i) (code m j))) [
    | inl e ↦ absurd (let same = apart i j (omega (arith, count)) (omega (arith, count, low)) e in omega (arith, low, same))
    | inr e ↦ rw e (absent game (suc i) j os (omega (arith, low)) (omega (arith, count)))
  ]

  -- the owner of the k-th province from i on
  owner_back : (game : List ℕ) (i k : ℕ) (os : List (Option ℕ)) (d : Option ℕ) → i + length os ≡ length m.provinces → k < length os → All (λ o. is_power_if_any m o ≡ true) os
      → owner_in m (centre_rows_from m game i os) (code m (i + k)) ≡ get_or os k d
  owner_back game i k [] d count low all = absurd (omega (arith, low))
  owner_back game i zero (None ∷ os) d count low all =
      subst (λ j. owner_in m (centre_rows_from m game (suc i) os) (code m j) ≡ None) (let e : i ≡ i + 0 = omega arith in e) (absent game (suc i) i os (omega arith) (omega (arith, count)))
  owner_back game i zero (Some r ∷ os) d count low all =
      let e : i + 0 ≡ i = omega arith in
      rw (e, itself (code m i)) (low_power r (all 0 None (omega arith)))
  owner_back game i (suc k) (None ∷ os) d count low all =
      let e : suc i + k ≡ i + suc k = omega arith in
      subst (λ j. owner_in m (centre_rows_from m game (suc i) os) (code m j) ≡ get_or os k d) e
      (owner_back game (suc i) k os d (omega (arith, count)) (omega (arith, low)) (all_parts (λ o. is_power_if_any m o ≡ true) None os all).1)
  owner_back game i (suc k) (Some r ∷ os) d count low all =
      let e : suc i + k ≡ i + suc k = omega arith in
      elim (cases_Bool (bytes_eq (code m i) (code m (i + suc k)))) [
        | inl f ↦ absurd (let same = apart i (i + suc k) (omega (arith, count)) (omega (arith, count, low)) f in omega (arith, same))
        | inr f ↦ rw f (subst (λ j. owner_in m (centre_rows_from m game (suc i) os) (code m j) ≡ get_or os k d) e
            (owner_back game (suc i) k os d (omega (arith, count)) (omega (arith, low)) (all_parts (λ o. is_power_if_any m o ≡ true) (Some r) os all).1))
      ]

  pub owners_back : (game : List ℕ) (b : Position) → IsOf m b → map (λ (p : Province). owner_in m (centre_rows m game b) p.code) m.provinces ≡ b.owners
  owners_back game b of_map =
      let read = λ (p : Province). owner_in m (centre_rows m game b) p.code in
      let long = length-map m.provinces read in
      same_lists (map read m.provinces) b.owners (long ∙ sym of_map.owners_count)
      (λ k d low.
      let none : 0 + k ≡ k = omega arith in
      get_or-map read m.provinces k no_province d (omega (arith, low, long))
      ∙ subst (λ j. owner_in m (centre_rows_from m game 0 b.owners) (code m j) ≡ get_or b.owners k d) none
      (owner_back game 0 k b.owners d (omega (arith, of_map.owners_count)) (omega (arith, low, long, of_map.owners_count)) of_map.owners))
