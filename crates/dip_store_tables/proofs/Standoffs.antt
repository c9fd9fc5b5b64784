-- The provinces that a standoff left are read back.
use Rattle.std.proofs.Common.{◌≡◌, ℕ, ◌<◌, true, List, [], ◌∷◌, ◌++◌, length, All, refl, sym, ap, ◌∙◌, arith}
use Rattle.std.proofs.lemmas.Bool.{and_parts, eqb-true}
use Rattle.dip_map.specs.Charts.{Chart, IsMap, is_code}
use Rattle.dip_store_tables.specs.Boards.{code, standoff_text, prov_in, standoff_of}
use Rattle.dip_store_tables.proofs.Parts.{all_parts, code_back}

module _ (m : Chart) (ok : IsMap m) where
  -- a code is three bytes
  pub three : (c : List ℕ) → is_code c ≡ true → (x : ℕ) × (y : ℕ) × (z : ℕ) × (c ≡ x ∷ y ∷ z ∷ [])
  three [] h = absurd (cc)
  three (x ∷ []) h = absurd (cc)
  three (x ∷ y ∷ []) h = absurd (cc)
  three (x ∷ y ∷ z ∷ []) h = (x, y, z, refl)
  three (x ∷ y ∷ z ∷ w ∷ more) h = absurd (let e = eqb-true (length (x ∷ y ∷ z ∷ w ∷ more)) 3 (and_parts _ _ h).0 in omega (arith, e))

  -- a code with more after it
  one_back : (p : ℕ) → p < length m.provinces → (more : List ℕ) → standoff_of m (code m p ++ 32 ∷ more) ≡ p ∷ standoff_of m more
  one_back p low more =
      let it = three (code m p) (and_parts _ _ (ok.provinces p low)).0 in
      ap (λ c. standoff_of m (c ++ 32 ∷ more)) it.3 ∙ ap (λ c. prov_in m c ∷ standoff_of m more) (sym it.3) ∙ ap (λ n. n ∷ standoff_of m more) (code_back m ok p low)

  last_back : (p : ℕ) → p < length m.provinces → standoff_of m (code m p) ≡ p ∷ []
  last_back p low =
      let it = three (code m p) (and_parts _ _ (ok.provinces p low)).0 in
      ap (standoff_of m) it.3 ∙ ap (λ c. prov_in m c ∷ []) (sym it.3) ∙ ap (λ n. n ∷ []) (code_back m ok p low)

  pub standoff_back : (ps : List ℕ) → All (λ p. p < length m.provinces) ps → standoff_of m (standoff_text m ps) ≡ ps
  standoff_back [] h = refl
  standoff_back (p ∷ []) h = last_back p (h 0 0 (omega arith))
  standoff_back (p ∷ q ∷ ps) h =
      let h = all_parts (λ p. p < length m.provinces) p (q ∷ ps) h in
      one_back p h.0 (standoff_text m (q ∷ ps)) ∙ ap (λ xs. p ∷ xs) (standoff_back (q ∷ ps) h.1)
