-- The bytes of codes, names and numbers.
use Rattle.std.proofs.Common.{◌≡◌, ◌<◌, ◌+◌, ◌/◌, ◌%◌, ◌==◌, ◌&&◌, inl, inr, ℕ, zero, suc, Bool, true, false, cond, List, [], ◌∷◌, length, get_or, nat_le, not, refl, sym, subst, arith, lt-ltb}
use Rattle.std.specs.List.{list_all}
use Rattle.std.specs.Char.{is_ascii_lowercase}
use Rattle.std.specs.Fmt.{decimal, digits, digits_onto, digit_glyph}
use Rattle.std.proofs.lemmas.Bool.{and_from, and_parts, cases_lt, eqb-true, or_cases}
use Rattle.std.proofs.lemmas.List.{get_or_past}
use Rattle.dip_names.specs.declared.names.Terrain.{Terrain}
use Rattle.dip_names.specs.declared.names.Terrain.TheVariants.{Inland, Coast, Sea}
use Rattle.dip_names.specs.declared.names.Place.{Place}
use Rattle.dip_names.specs.Forms.{is_coast_name, is_taken}
use Rattle.dip_map.specs.Charts.{Chart, IsMap, Province, Realm, Shore, has_named_shores, has_one_shore, is_centre, is_full_name, is_shaped, is_unit, no_province, no_realm, no_shore, province, realm, shore}
use Rattle.dip_check_papers.proofs.LineLemmas.{AreAll, all_weaker}

-- a number's digits pass what each digit passes
module _ (t : ℕ → Bool) (digit : (d : ℕ) → d < 10 → t (48 + d) ≡ true) where
  glyph : (n : ℕ) → t (digit_glyph false (n % 10)) ≡ true
  glyph n =
      let low : n % 10 < 10 = omega arith in
      rw (lt-ltb (n % 10) 10 low) (digit (n % 10) low)

  onto : (k n : ℕ) (acc : List ℕ) → AreAll t acc → AreAll t (digits_onto k 10 false n acc)
  onto zero n acc all = all
  onto (suc k) n acc all = go (n / 10 == 0) (onto k (n / 10) (digit_glyph false (n % 10) ∷ acc) more)
    where
      more : AreAll t (digit_glyph false (n % 10) ∷ acc)
      more = and_from _ _ (glyph n) all

      go : (b : Bool) → AreAll t (digits_onto k 10 false (n / 10) (digit_glyph false (n % 10) ∷ acc)) → AreAll t (cond b (digit_glyph false (n % 10) ∷ acc) (digits_onto k 10 false (n / 10) (digit_glyph false (n % 10) ∷ acc)))
      go true rest = more
      go false rest = rest

  pub number_all : (n : ℕ) → AreAll t (decimal n)
  unfolding digits
  number_all n = onto 64 n [] refl

none_all : (t : ℕ → Bool) (text : List ℕ) → (length text == 0) ≡ true → AreAll t text
none_all t [] h = refl
none_all t (b ∷ bs) h = absurd (omega (arith, eqb-true (length (b ∷ bs)) 0 h))

named_at : (t : ℕ → Bool) (p : Shore → Bool) (ss : List Shore) (k : ℕ) → ((s : Shore) → p s ≡ true → AreAll t s.name) → list_all p ss ≡ true → AreAll t (get_or ss k no_shore).name
named_at t p [] k each all = refl
named_at t p (s ∷ ss) zero each all = each s (and_parts (p s) (list_all p ss) all).0
named_at t p (s ∷ ss) (suc k) each all = named_at t p ss k each (and_parts (p s) (list_all p ss) all).1

-- codes and names have small letters alone
module _ (m : Chart) (laws : IsMap m) (t : ℕ → Bool) (small : (b : ℕ) → is_ascii_lowercase b ≡ true → t b ≡ true) where
  letters : (text : List ℕ) → list_all is_ascii_lowercase text ≡ true → AreAll t text
  letters text all = all_weaker is_ascii_lowercase t small text all

  pub code_all : (p : ℕ) → AreAll t (province m p).code
  code_all p = elim (cases_lt p (length m.provinces)) [
    | inl low ↦
        let r = province m p in
        letters r.code (and_parts (length r.code == 3) (list_all is_ascii_lowercase r.code) (and_parts _ (is_full_name r.name && is_shaped r.terrain r) (laws.provinces p low)).0).1
    | inr past ↦ subst (λ (r : Province). AreAll t r.code) (sym (get_or_past m.provinces p no_province past)) refl
  ]

  pub name_all : (r : ℕ) → AreAll t (realm m r).name
  name_all r = elim (cases_lt r (length m.realms)) [
    | inl low ↦
        let w = realm m r in
        let name = (and_parts _ (list_all (λ p. is_centre m p) w.home && list_all (λ u. is_unit m u) w.units) (laws.realms r low)).0 in
        letters w.name (and_parts (list_all is_ascii_lowercase w.name) (not (is_taken w.name))
        (and_parts (nat_le (length w.name) 16) (list_all is_ascii_lowercase w.name && not (is_taken w.name))
        (and_parts (nat_le 1 (length w.name)) (nat_le (length w.name) 16 && (list_all is_ascii_lowercase w.name && not (is_taken w.name))) name).1).1).0
    | inr past ↦ subst (λ (w : Realm). AreAll t w.name) (sym (get_or_past m.realms r no_realm past)) refl
  ]

  one_shore : (ss : List Shore) (k : ℕ) → has_one_shore ss ≡ true → AreAll t (get_or ss k no_shore).name
  one_shore ss k h = named_at t (λ s. length s.name == 0) ss k (λ s e. none_all t s.name e) (and_parts (length ss == 1) (list_all (λ s. length s.name == 0) ss) h).1

  named_shores : (ss : List Shore) (k : ℕ) → has_named_shores ss ≡ true → AreAll t (get_or ss k no_shore).name
  named_shores ss k h =
      named_at t (λ s. is_coast_name s.name) ss k (λ s e. letters s.name (and_parts (length s.name == 2) (list_all is_ascii_lowercase s.name) e).1)
      (and_parts (nat_le (length ss) 4) (list_all (λ s. is_coast_name s.name) ss) (and_parts (nat_le 2 (length ss)) (nat_le (length ss) 4 && list_all (λ s. is_coast_name s.name) ss) h).1).1

  shaped : (terrain : Terrain) (r : Province) (k : ℕ) → is_shaped terrain r ≡ true → AreAll t (get_or r.shores k no_shore).name
  shaped Inland r k h = none (length r.shores == 0) refl h
    where
      none : (b : Bool) → (length r.shores == 0) ≡ b → b ≡ true → AreAll t (get_or r.shores k no_shore).name
      none b is yes_none =
          let few : length r.shores ≡ 0 = eqb-true (length r.shores) 0 h in
          subst (λ (s : Shore). AreAll t s.name) (sym (get_or_past r.shores k no_shore (omega (arith, few)))) refl
  shaped Coast r k h = elim (or_cases (has_one_shore r.shores) (has_named_shores r.shores) h) [
    | inl one ↦ one_shore r.shores k one
    | inr named ↦ named_shores r.shores k named
  ]
  shaped Sea r k h = one_shore r.shores k (and_parts (has_one_shore r.shores) ((length r.army == 0) && not r.centre) h).0

  pub coast_all : (a : Place) → AreAll t (shore m a).name
  coast_all a = elim (cases_lt a.prov (length m.provinces)) [
    | inl low ↦
        let r = province m a.prov in
        shaped r.terrain r a.coast (and_parts (is_full_name r.name) (is_shaped r.terrain r) (and_parts _ (is_full_name r.name && is_shaped r.terrain r) (laws.provinces a.prov low)).1).1
    | inr past ↦ subst (λ (r : Province). AreAll t (get_or r.shores a.coast no_shore).name) (sym (get_or_past m.provinces a.prov no_province past)) refl
  ]
