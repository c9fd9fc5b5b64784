-- The rows that a change puts in have no key twice.
use Rattle.std.proofs.Common.{◌≡◌, ◌<◌, ◌≤◌, ◌+◌, ◌==◌, ◌&&◌, ℕ, zero, suc, Bool, true, false, cond, not, nat_lt, List, [], ◌∷◌, map, length, Option, Some, None, bytes_eq, inl, inr, refl, sym, ap, subst, ◌∙◌, arith}
use Rattle.std.specs.List.{AllByRecursion, count_by, list_all, list_any, range_with_len}
use Rattle.std.proofs.lemmas.Bool.{and_parts, cases_Bool, cases_lt, eq-eqb, eqb-false, eqb-true, ltb-true, not-true}
use Rattle.std.proofs.lemmas.List.Sums.{sum_by-cons}
use Rattle.std.proofs.lemmas.List.Elements.{recursion_from_All}
use Rattle.dip_store_tables.proofs.ListLemmas.{all_map, all_of, all_weaker, none_from_any}
use Rattle.dip_store_changes.specs.Kind.{Kind}
use Rattle.dip_store_changes.specs.Kind.TheVariants.{Army, Fleet}
use Rattle.dip_store_changes.specs.Unit.{Unit as AUnit}
use Rattle.dip_map.specs.Charts.{Chart, IsMap, are_units_single, is_unit, may_stand, power_of, prov_of}
use Rattle.dip_map.specs.Boards.{IsOf, Position, is_dislodged, is_prov_if_any}
use Rattle.dip_map.specs.declared.boards.Dislodged.{Dislodged}
use Rattle.dip_store_tables.specs.Boards.{UnitRow, centre_rows_from, code, dislodged_row, power_name, standing_row, unit_rows}
use Rattle.dip_desk_state.specs.Fitting.{AreAscending, are_complete}
use Rattle.dip_desk_state.specs.State.{NewSeat}
use Rattle.dip_desk_state.specs.Records.{Standing}
use Rattle.dip_store_tables.specs.Coding.{same_seat}
use Rattle.dip_store_tables.specs.Tables.{PendingRow}
use Rattle.dip_store_tables.specs.Writing.{pending_row, seat_row}
use Rattle.dip_store_sql.specs.Keys.{Differ, same_centre, same_order, same_unit}
use Rattle.dip_store.proofs.Apart.{first_off, joined_apart, same_bytes, second_off}

-- one that passes counts
counts_one : (b : Bool) → b ≡ true → cond {A = ℕ} b 1 0 ≡ 1
counts_one b e = ap (λ b. cond {A = ℕ} b 1 0) e

count_cons : {A : Type 0} (test : A → Bool) (x : A) (xs : List A) → count_by test (x ∷ xs) ≡ cond (test x) 1 0 + count_by test xs
count_cons test x xs = sum_by-cons (λ y. cond (test y) 1 0) x xs

module _ (m : Chart) (ok : IsMap m) (name : List ℕ) where
  code_apart : (p q : ℕ) → p < length m.provinces → q < length m.provinces → (p ≡ q → ⊥) → bytes_eq (code m p) (code m q) ≡ false
  code_apart p q low also far = elim (cases_Bool (bytes_eq (code m p) (code m q))) [
    | inl e ↦ absurd (
        let found = sym (ok.codes_found p low) ∙ ap (prov_of m) (same_bytes (code m p) (code m q) e) ∙ ok.codes_found q also in
        let same : p ≡ q = cc in
        far same)
    | inr e ↦ e
  ]

  name_apart : (p q : ℕ) → p < length m.realms → q < length m.realms → (p ≡ q → ⊥) → bytes_eq (power_name m p) (power_name m q) ≡ false
  name_apart p q low also far = elim (cases_Bool (bytes_eq (power_name m p) (power_name m q))) [
    | inl e ↦ absurd (
        let found = sym (ok.names_found p low) ∙ ap (power_of m) (same_bytes (power_name m p) (power_name m q) e) ∙ ok.names_found q also in
        let same : p ≡ q = cc in
        far same)
    | inr e ↦ e
  ]

  -- standing orders, one a province
  module _ (power : List ℕ) where
    abbrev order_row : Standing → PendingRow
    order_row o = pending_row m name power o

    orders_after : (p : ℕ) (o : Standing) (os : List Standing) → o.province ≡ p → p < length m.provinces → AllByRecursion (λ q. p < q) (map (λ x. x.province) os) → AllByRecursion (λ x. x.province < length m.provinces) os
        → AllByRecursion (λ y. same_order (order_row o) y ≡ false) (map order_row os)
    orders_after p o [] is low above all = tt
    orders_after p o (x ∷ xs) is low above all = (
      second_off (bytes_eq name name) (bytes_eq power power && bytes_eq (code m o.province) (code m x.province))
          (second_off (bytes_eq power power) (bytes_eq (code m o.province) (code m x.province)) (code_apart o.province x.province (omega (arith, is, low)) all.0 (λ same. omega (arith, is, same, above.0)))),
      orders_after p o xs is low above.1 all.1,
    )

    pub orders_new : (os : List Standing) → AreAscending (map (λ x. x.province) os) → AllByRecursion (λ x. x.province < length m.provinces) os → Differ same_order (map order_row os)
    orders_new [] up all = tt
    orders_new (o ∷ os) up all = (orders_after o.province o os refl all.0 up.0 all.1, orders_new os up.1 all.1)

  -- seats, one a power
  seats_after : (s : NewSeat) (ss : List NewSeat) → s.power < length m.realms → count_by (λ x. x.power == s.power) ss ≡ 0 → AllByRecursion (λ x. x.power < length m.realms) ss
      → AllByRecursion (λ y. same_seat (seat_row m name s) y ≡ false) (map (seat_row m name) ss)
  seats_after s [] low none all = tt
  seats_after s (x ∷ xs) low none all =
      let split = count_cons (λ (y : NewSeat). y.power == s.power) x xs in
      elim (cases_Bool (x.power == s.power)) [
        | inl e ↦ absurd (omega (arith, split, counts_one (x.power == s.power) e, none))
        | inr e ↦ (
          second_off (bytes_eq name name) (bytes_eq (power_name m s.power) (power_name m x.power)) (name_apart s.power x.power low all.0 (λ same. eqb-false x.power s.power e (sym same))),
          seats_after s xs low (omega (arith, split, none)) all.1,
        )
      ]

  seats_few : (ss : List NewSeat) → ((p : ℕ) → p < length m.realms → count_by (λ x. x.power == p) ss ≤ 1) → AllByRecursion (λ x. x.power < length m.realms) ss → Differ same_seat (map (seat_row m name) ss)
  seats_few [] few all = tt
  seats_few (s ∷ ss) few all =
      let own = counts_one (s.power == s.power) (eq-eqb s.power s.power refl) in
      let split = count_cons (λ (x : NewSeat). x.power == s.power) s ss in
      let one = few s.power all.0 in (
        seats_after s ss all.0 (omega (arith, split, own, one)) all.1,
        seats_few ss (λ p low. let most = few p low in let more = count_cons (λ (x : NewSeat). x.power == p) s ss in omega (arith, most, more)) all.1,
      )

  number_tested : (test : ℕ → Bool) (a k p : ℕ) → a ≤ p → p < a + k → list_all test (range_with_len a k) ≡ true → test p ≡ true
  number_tested test a zero p least most all = absurd (omega (arith, least, most))
  number_tested test a (suc k) p least most all =
      let both = and_parts (test a) (list_all test (range_with_len (a + 1) k)) all in
      elim (cases_lt a p) [
        | inl low ↦ number_tested test (a + 1) k p (omega (arith, low)) (omega (arith, most)) both.1
        | inr high ↦ let same : a ≡ p = omega (arith, least, high) in subst (λ n. test n ≡ true) same both.0
      ]

  pub seats_new : (ss : List NewSeat) → are_complete m ss ≡ true → AllByRecursion (λ x. x.power < length m.realms) ss → Differ same_seat (map (seat_row m name) ss)
  seats_new ss complete all =
      seats_few ss (λ p low. let once = eqb-true (count_by (λ (x : NewSeat). x.power == p) ss) 1 (number_tested (λ q. count_by (λ (x : NewSeat). x.power == q) ss == 1) 0 (length m.realms) p (omega arith) (omega (arith, low)) complete) in omega (arith, once)) all

  -- units, standing or dislodged, one of each a province
  place_low : (u : AUnit) → is_unit m u ≡ true → u.place.prov < length m.provinces
  place_low u h = place u.kind (and_parts (nat_lt u.power (length m.realms)) (may_stand m u.kind u.place) h).1
    where
      place : (k : Kind) → may_stand m k u.place ≡ true → u.place.prov < length m.provinces
      place Army is = ltb-true _ _ (and_parts (nat_lt u.place.prov (length m.provinces)) _ is).0
      place Fleet is = ltb-true _ _ (and_parts (nat_lt u.place.prov (length m.provinces)) _ is).0

  module _ {A : Type 0} (unit : A → AUnit) (row : A → UnitRow) (coded : (a : A) → (row a).province ≡ code m (unit a).place.prov) where
    units_after : (a : A) (xs : List A) → (unit a).place.prov < length m.provinces → AllByRecursion (λ v. (v.place.prov == (unit a).place.prov) ≡ false) (map unit xs) → AllByRecursion (λ x. (unit x).place.prov < length m.provinces) xs
        → AllByRecursion (λ y. same_unit (row a) y ≡ false) (map row xs)
    units_after a [] low far all = tt
    units_after a (x ∷ xs) low far all =
        let apart : bytes_eq (row a).province (row x).province ≡ false = rw (coded a, coded x) (code_apart (unit a).place.prov (unit x).place.prov low all.0 (λ same. eqb-false _ _ far.0 (sym same))) in (
          second_off (bytes_eq (row a).game (row x).game) (bytes_eq (row a).province (row x).province && ((row a).dislodged == (row x).dislodged)) (first_off (bytes_eq (row a).province (row x).province) ((row a).dislodged == (row x).dislodged) apart),
          units_after a xs low far.1 all.1,
        )

    units_of : (xs : List A) → are_units_single (map unit xs) ≡ true → AllByRecursion (λ x. (unit x).place.prov < length m.provinces) xs → Differ same_unit (map row xs)
    units_of [] single all = tt
    units_of (a ∷ xs) single all =
        let both = and_parts (not (list_any (λ v. v.place.prov == (unit a).place.prov) (map unit xs))) (are_units_single (map unit xs)) single in
        (units_after a xs all.0 (none_from_any (λ v. v.place.prov == (unit a).place.prov) (map unit xs) (not-true _ both.0)) all.1, units_of xs both.1 all.1)

  pub units_new : (b : Position) → IsOf m b → Differ same_unit (unit_rows m name b)
  units_new b of =
      joined_apart same_unit (map (standing_row m name) b.units) (map (dislodged_row m name) b.dislodged)
      (units_of (λ u. u) (standing_row m name) (λ u. refl) b.units (subst (λ us. are_units_single us ≡ true) (sym (map_itself b.units)) of.apart)
      (all_weaker (λ u. is_unit m u ≡ true) (λ u. u.place.prov < length m.provinces) place_low b.units (recursion_from_All _ _ of.units)))
      (units_of (λ (d : Dislodged). d.unit) (dislodged_row m name) (λ d. refl) b.dislodged of.dislodged_apart
      (all_weaker (λ (d : Dislodged). is_dislodged m d ≡ true) (λ (d : Dislodged). d.unit.place.prov < length m.provinces) (λ d it. place_low d.unit (and_parts (is_unit m d.unit) (is_prov_if_any m d.origin) it).0) b.dislodged (recursion_from_All _ _ of.dislodged)))
      (all_map (λ x. AllByRecursion (λ y. same_unit x y ≡ false) (map (dislodged_row m name) b.dislodged)) (standing_row m name) b.units
      (all_of _ (λ u. all_map (λ y. same_unit (standing_row m name u) y ≡ false) (dislodged_row m name) b.dislodged (all_of _ (λ d. second_off (bytes_eq name name) (bytes_eq (code m u.place.prov) (code m d.unit.place.prov) && false) (second_off (bytes_eq (code m u.place.prov) (code m d.unit.place.prov)) false refl)) b.dislodged)) b.units))
    where
      map_itself : (us : List AUnit) → map (λ u. u) us ≡ us
      map_itself [] = refl
      map_itself (u ∷ us) = ap (λ vs. u ∷ vs) (map_itself us)

  -- owned centres, province by province
  centres_after : (k r p : ℕ) (os : List (Option ℕ)) → k < p → p + length os ≤ length m.provinces
      → AllByRecursion (λ y. same_centre (record { game = name; province = code m k; power = power_name m r }) y ≡ false) (centre_rows_from m name p os)
  centres_after k r p [] low within = tt
  centres_after k r p (None ∷ os) low within = centres_after k r (suc p) os (omega (arith, low)) (omega (arith, within))
  centres_after k r p (Some q ∷ os) low within = (
    second_off (bytes_eq name name) (bytes_eq (code m k) (code m p)) (code_apart k p (omega (arith, low, within)) (omega (arith, within)) (λ same. omega (arith, same, low))),
    centres_after k r (suc p) os (omega (arith, low)) (omega (arith, within)),
  )

  pub centres_new : (p : ℕ) (os : List (Option ℕ)) → p + length os ≤ length m.provinces → Differ same_centre (centre_rows_from m name p os)
  centres_new p [] within = tt
  centres_new p (None ∷ os) within = centres_new (suc p) os (omega (arith, within))
  centres_new p (Some q ∷ os) within = (centres_after p q (suc p) os (omega arith) (omega (arith, within)), centres_new (suc p) os (omega (arith, within)))
