-- The units that stand and those that were dislodged are read back.
use Rattle.std.proofs.Common.{◌≡◌, ℕ, ◌<◌, true, List, [], ◌∷◌, ◌++◌, map, filter, length, Option, Some, None, All, refl, ap, ap₂, subst}
use Rattle.std.proofs.lemmas.Bool.{and_parts}
use Rattle.dip_names.specs.declared.names.Unit.{Unit as AUnit}
use Rattle.dip_map.specs.Charts.{Chart, IsMap, prov_of, is_unit, is_code}
use Rattle.dip_map.specs.Boards.{is_prov_if_any, is_dislodged}
use Rattle.dip_map.specs.declared.boards.Dislodged.{Dislodged}
use Rattle.dip_store_tables.specs.Boards.{UnitRow, code, origin_text, standing_row, dislodged_row, unit_of, origin_of, dislodged_of, stands, fell}
use Rattle.dip_store_tables.proofs.Parts.{all_parts, below, unit_back}

module _ (m : Chart) (ok : IsMap m) where
  -- no code is empty
  no_code : (p : ℕ) → p < length m.provinces → code m p ≡ [] → ⊥
  no_code p low e =
      let is = (and_parts _ _ (ok.provinces p low)).0 in
      let none : is_code [] ≡ true = subst (λ c. is_code c ≡ true) e is in
      cc

  some_back : (c : List ℕ) (p : ℕ) → (c ≡ [] → ⊥) → prov_of m c ≡ Some p → origin_of m c ≡ Some p
  some_back [] p none h = absurd (none refl)
  some_back (x ∷ xs) p none h = h

  origin_back : (o : Option ℕ) → is_prov_if_any m o ≡ true → origin_of m (origin_text m o) ≡ o
  origin_back None h = refl
  origin_back (Some p) h = let low = below _ _ h in some_back (code m p) p (no_code p low) (ok.codes_found p low)

  dislodged_back : (game : List ℕ) (d : Dislodged) → is_dislodged m d ≡ true → dislodged_of m (dislodged_row m game d) ≡ d
  dislodged_back game d h =
      let parts = and_parts _ _ h in
      let unit = unit_back m ok game 1 d.origin d.unit parts.0 in
      let origin = origin_back d.origin parts.1 in
      λ i. record { unit = unit i; origin = origin i }

  pub units_back : (game : List ℕ) (us : List AUnit) → All (λ u. is_unit m u ≡ true) us → map (unit_of m) (map (standing_row m game) us) ≡ us
  units_back game [] h = refl
  units_back game (u ∷ us) h = let h = all_parts (λ u. is_unit m u ≡ true) u us h in ap₂ ◌∷◌ (unit_back m ok game 0 None u h.0) (units_back game us h.1)

  pub fallen_back : (game : List ℕ) (ds : List Dislodged) → All (λ d. is_dislodged m d ≡ true) ds → map (dislodged_of m) (map (dislodged_row m game) ds) ≡ ds
  fallen_back game [] h = refl
  fallen_back game (d ∷ ds) h = let h = all_parts (λ d. is_dislodged m d ≡ true) d ds h in ap₂ ◌∷◌ (dislodged_back game d h.0) (fallen_back game ds h.1)

  pub standing : (game : List ℕ) (us : List AUnit) (rest : List UnitRow) → filter stands (map (standing_row m game) us ++ rest) ≡ map (standing_row m game) us ++ filter stands rest
  standing game [] rest = refl
  standing game (u ∷ us) rest = ap (λ xs. standing_row m game u ∷ xs) (standing game us rest)

  pub not_standing : (game : List ℕ) (ds : List Dislodged) → filter stands (map (dislodged_row m game) ds) ≡ []
  not_standing game [] = refl
  not_standing game (d ∷ ds) = not_standing game ds

  pub not_fallen : (game : List ℕ) (us : List AUnit) (rest : List UnitRow) → filter fell (map (standing_row m game) us ++ rest) ≡ filter fell rest
  not_fallen game [] rest = refl
  not_fallen game (u ∷ us) rest = not_fallen game us rest

  pub fallen : (game : List ℕ) (ds : List Dislodged) → filter fell (map (dislodged_row m game) ds) ≡ map (dislodged_row m game) ds
  fallen game [] = refl
  fallen game (d ∷ ds) = ap (λ xs. dislodged_row m game d ∷ xs) (fallen game ds)
