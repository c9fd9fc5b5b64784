-- How many a removal in disorder takes: as many as are owed, if there are so many.
use Rattle.std.proofs.Common.{◌≡◌, ◌≢◌, inl, inr, ℕ, ◌+◌, ◌-◌, ◌==◌, Bool, true, false, not, cond, zero, suc, List, [], ◌∷◌, length, filter, Contains, refl, sym, ap, ◌∙◌, subst, arith}
use Rattle.std.proofs.lemmas.Bool.{cases_Bool, eqb-true, eq-eqb}
use Rattle.dip_map.specs.Charts.{Chart, are_units_single}
use Rattle.dip_names.specs.declared.names.Unit.{Unit as AUnit}
use Rattle.dip_orders_placed.proofs.StandingLaws.{element_cases}
use Rattle.dip_turn_phases.specs.Adjusting.{is_among}
use Rattle.dip_turn_phases.specs.Disorder.{first_to_go, goes_before, in_disorder, sooner, without}
use Rattle.dip_turn.proofs.CountLemmas.{all_kept}
use Rattle.dip_turn.proofs.SingleLemmas.{alone, behind, first, kept_from, others_single, single_filtered}

-- the first to go is one of them
pub first_goes : (m : Chart) (power : ℕ) (u : AUnit) (us : List AUnit) → Contains (u ∷ us) (first_to_go m power u us)
first_goes m power u [] = first u []
first_goes m power u (v ∷ vs) = go (goes_before m power v u) (first_goes m power (sooner m power u v) vs)
  where
    go : (c : Bool) → Contains (cond c v u ∷ vs) (first_to_go m power (cond c v u) vs) → Contains (u ∷ v ∷ vs) (first_to_go m power (cond c v u) vs)
    go true h = behind u (v ∷ vs) (first_to_go m power v vs) h
    go false h =
        elim (element_cases u vs (first_to_go m power u vs) h.0 h.1 h.2) [
          | inl is ↦ (0, (omega arith), is)
          | inr rest ↦ behind u (v ∷ vs) (first_to_go m power u vs) (behind v vs (first_to_go m power u vs) rest)
        ]

-- whoever goes is one of them
pub goes_among : (m : Chart) (power n : ℕ) (us : List AUnit) (v : AUnit) → Contains (in_disorder m power n us) v → Contains us v
goes_among m power zero us v c = absurd (omega (arith, c.1))
goes_among m power (suc n) [] v c = absurd (omega (arith, c.1))
goes_among m power (suc n) (u ∷ us) v c =
    let w : AUnit = first_to_go m power u us in
    elim (element_cases w (in_disorder m power n (without w.place.prov (u ∷ us))) v c.0 c.1 c.2) [
      | inl is ↦ subst (λ (x : AUnit). Contains (u ∷ us) x) is (first_goes m power u us)
      | inr rest ↦ (kept_from (λ x. not (x.place.prov == w.place.prov)) (u ∷ us) v (goes_among m power n (without w.place.prov (u ∷ us)) v rest)).0
    ]

differs : (p q : ℕ) → p ≢ q → (p == q) ≡ false
differs p q apart =
    elim (cases_Bool (p == q)) [
      | inl same ↦ absurd (apart (eqb-true p q same))
      | inr other ↦ other
    ]

-- without one of them there is one less
one_less : (w : AUnit) (us : List AUnit) → are_units_single us ≡ true → Contains us w → length (without w.place.prov us) + 1 ≡ length us
one_less w [] single c = absurd (omega (arith, c.1))
one_less w (u ∷ us) single c =
    elim (element_cases u us w c.0 c.1 c.2) [
      | inl is ↦
          let here : (u.place.prov == w.place.prov) ≡ true = eq-eqb _ _ (ap (λ (x : AUnit). x.place.prov) is) in
          let rest : without w.place.prov us ≡ us =
          all_kept (λ x. not (x.place.prov == w.place.prov)) us
          (λ x among. ap not (differs x.place.prov w.place.prov (λ same. alone u us single x among (same ∙ sym (ap (λ (y : AUnit). y.place.prov) is))))) in
          rw here (omega (arith, ap {B = ℕ} (λ (xs : List AUnit). length xs) rest))
      | inr among ↦
          let apart : (u.place.prov == w.place.prov) ≡ false = differs _ _ (λ same. alone u us single w among (sym same)) in
          rw apart (omega (arith, one_less w us (others_single u us single) among))
    ]

eqb_turned : (p q : ℕ) → (p == q) ≡ (q == p)
eqb_turned p q = grind arith

-- who stays where the first went and then others
stays_split : (w : AUnit) (ds us : List AUnit) → filter (λ u. not (is_among (w ∷ ds) u)) us ≡ filter (λ u. not (is_among ds u)) (without w.place.prov us)
stays_split w ds [] = refl
stays_split w ds (u ∷ us) =
    elim (cases_Bool (u.place.prov == w.place.prov)) [
      | inl same ↦ let turned : (w.place.prov == u.place.prov) ≡ true = eqb_turned w.place.prov u.place.prov ∙ same in rw (same, turned) (stays_split w ds us)
      | inr other ↦
          let turned : (w.place.prov == u.place.prov) ≡ false = eqb_turned w.place.prov u.place.prov ∙ other in
          elim (cases_Bool (is_among ds u)) [
            | inl gone ↦ rw (other, turned, gone) (stays_split w ds us)
            | inr here ↦ rw (other, turned, here) (ap (λ vs. u ∷ vs) (stays_split w ds us))
          ]
    ]

-- how many stay
pub stays_count : (m : Chart) (power n : ℕ) (us : List AUnit) → are_units_single us ≡ true → length (filter (λ u. not (is_among (in_disorder m power n us) u)) us) ≡ length us - n
stays_count m power zero us single = omega (arith, ap {B = ℕ} (λ (xs : List AUnit). length xs) (all_kept (λ u. true) us (λ u among. refl)))
stays_count m power (suc n) [] single = omega arith
stays_count m power (suc n) (u ∷ us) single =
    let w : AUnit = first_to_go m power u us in
    let rest : List AUnit = without w.place.prov (u ∷ us) in
    omega (
      arith,
      ap {B = ℕ} (λ (xs : List AUnit). length xs) (stays_split w (in_disorder m power n rest) (u ∷ us)),
      stays_count m power n rest (single_filtered (λ x. not (x.place.prov == w.place.prov)) (u ∷ us) single),
      one_less w (u ∷ us) single (first_goes m power u us),
    )
