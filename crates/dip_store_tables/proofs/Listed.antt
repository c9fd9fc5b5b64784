-- Owners and standoffs, one after the other.
use Rattle.std.proofs.Common.{◌≡◌, ℕ, ◌<◌, ◌≤◌, List, [], ◌∷◌, ◌++◌, map, length, take, drop, Some, None, refl, sym, ap, subst, ◌∙◌, append_assoc, arith}
use Rattle.std.proofs.lemmas.List.{same_lists, length-map, get_or-map}
use Rattle.std.proofs.lemmas.List.FromFn.{length-range_with_len, get_or-map-range_with_len}
use Rattle.std.proofs.lemmas.Bool.{and_parts}
use Rattle.dip_map.specs.Charts.{Chart, Province, IsMap, no_province, province, provs, prov_of}
use Rattle.dip_store_tables.specs.Boards.{CentreRow, code, owner_at, owner_in, or_zero, prov_in, standoff_text, standoff_of}
use Rattle.dip_store_tables.specs.WrittenBoards.{IsStandoffText}
use Rattle.dip_store_tables.proofs.Standoffs.{three}

-- what is asked of each province by its number is asked of each
each_province : {A : Type 0} (d : A) (m : Chart) (f : Province → A) → map (λ p. f (province m p)) (provs m) ≡ map f m.provinces
each_province d m f =
    let many = length-map (provs m) (λ p. f (province m p)) ∙ length-range_with_len 0 (length m.provinces) in
    let long = length-map m.provinces f in
    same_lists (map (λ p. f (province m p)) (provs m)) (map f m.provinces) (many ∙ sym long)
    (λ k e low.
    get_or-map-range_with_len (λ p. f (province m p)) 0 (length m.provinces) k k e (omega (arith, low, many)) (omega arith)
    ∙ sym (get_or-map f m.provinces k no_province e (omega (arith, low, many))))

pub owners_listed : (m : Chart) (rows : List CentreRow) → map (owner_at m rows) (provs m) ≡ map (λ (p : Province). owner_in m rows p.code) m.provinces
owners_listed m rows = each_province None m (λ (p : Province). owner_in m rows p.code)

pub standoff_more : (m : Chart) (text : List ℕ) → 4 ≤ length text → standoff_of m text ≡ prov_in m (take 3 text) ∷ standoff_of m (drop 4 text)
standoff_more m [] low = absurd (omega (arith, low))
standoff_more m (a ∷ []) low = absurd (omega (arith, low))
standoff_more m (a ∷ b ∷ []) low = absurd (omega (arith, low))
standoff_more m (a ∷ b ∷ c ∷ []) low = absurd (omega (arith, low))
standoff_more m (a ∷ b ∷ c ∷ d ∷ rest) low = refl

pub standoff_last : (m : Chart) (text : List ℕ) → length text ≡ 3 → standoff_of m text ≡ prov_in m (take 3 text) ∷ []
standoff_last m [] long = absurd (omega (arith, long))
standoff_last m (a ∷ []) long = absurd (omega (arith, long))
standoff_last m (a ∷ b ∷ []) long = absurd (omega (arith, long))
standoff_last m (a ∷ b ∷ c ∷ []) long = refl
standoff_last m (a ∷ b ∷ c ∷ d ∷ rest) long = absurd (omega (arith, long))

pub standoff_short : (m : Chart) (text : List ℕ) → length text < 3 → standoff_of m text ≡ []
standoff_short m [] low = refl
standoff_short m (a ∷ []) low = refl
standoff_short m (a ∷ b ∷ []) low = refl
standoff_short m (a ∷ b ∷ c ∷ rest) low = absurd (omega (arith, low))

module _ (m : Chart) (ok : IsMap m) where
  -- a code at the front of a text
  front : (p : ℕ) → p < length m.provinces → (more : List ℕ) → (take 3 (code m p ++ more) ≡ code m p) × (drop 3 (code m p ++ more) ≡ more)
  front p low more =
      let it = three m ok (code m p) (and_parts _ _ (ok.provinces p low)).0 in
      subst (λ c. (take 3 (c ++ more) ≡ c) × (drop 3 (c ++ more) ≡ more)) (sym it.3) (refl, refl)

  pub text_code : (text : List ℕ) → IsStandoffText m text → 3 ≤ length text → prov_of m (take 3 text) ≡ None → ⊥
  text_code text ([], all, is) low none = absurd (let e = ap length is in omega (arith, low, e))
  text_code text (p ∷ [], all, is) low none =
      let it = three m ok (code m p) (and_parts _ _ (ok.provinces p all.0)).0 in
      let same : take 3 text ≡ code m p = ap (take 3) is ∙ ap (take 3) it.3 ∙ sym it.3 in
      let found : Some p ≡ None = sym (ok.codes_found p all.0) ∙ ap (prov_of m) (sym same) ∙ none in
      cc
  text_code text (p ∷ q ∷ ps, all, is) low none =
      let same : take 3 text ≡ code m p = ap (take 3) is ∙ (front p all.0 _).0 in
      let found : Some p ≡ None = sym (ok.codes_found p all.0) ∙ ap (prov_of m) (sym same) ∙ none in
      cc

  pub text_more : (text : List ℕ) → IsStandoffText m text → 4 ≤ length text → IsStandoffText m (drop 4 text)
  text_more text ([], all, is) low = absurd (let e = ap length is in omega (arith, low, e))
  text_more text (p ∷ [], all, is) low =
      let it = three m ok (code m p) (and_parts _ _ (ok.provinces p all.0)).0 in
      absurd (let e : length text ≡ 3 = ap length is ∙ ap length it.3 in omega (arith, low, e))
  text_more text (p ∷ q ∷ ps, all, is) low =
      let it = three m ok (code m p) (and_parts _ _ (ok.provinces p all.0)).0 in
      let back : drop 4 text ≡ standoff_text m (q ∷ ps) = ap (drop 4) is ∙ ap (λ c. drop 4 (c ++ 32 ∷ standoff_text m (q ∷ ps))) it.3 in
      (q ∷ ps, all.1, back)

  -- a turn of the loop over the codes of a text
  pub turn : (text rest done : List ℕ) (p : ℕ) → prov_of m (take 3 rest) ≡ Some p → 4 ≤ length rest
      → (done ++ standoff_of m rest ≡ standoff_of m text) × (IsStandoffText m text → IsStandoffText m rest)
      → ((done ++ p ∷ []) ++ standoff_of m (drop 4 rest) ≡ standoff_of m text) × (IsStandoffText m text → IsStandoffText m (drop 4 rest))
  turn text rest done p found low kept =
      let more = standoff_more m rest low ∙ ap (λ o. or_zero o ∷ standoff_of m (drop 4 rest)) found in (
        append_assoc done (p ∷ []) _ ∙ ap (λ ps. done ++ ps) (sym more) ∙ kept.0,
        λ is. text_more rest (kept.1 is) low,
      )
