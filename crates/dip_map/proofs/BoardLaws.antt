-- The board of the opening is one of its map.
use Rattle.std.proofs.Common.{◌≡◌, ℕ, ◌+◌, ◌<◌, length, drop, List, [], ◌∷◌, Option, Some, None, ◌∙◌, true, zero, suc, get_or, arith, cond, nat_lt, inl, inr, refl, ◌==◌, Bool, not, map, ap, ◌&&◌, ◌||◌, ◌-◌, take, sym, subst, is_some}
use Rattle.std.proofs.lemmas.List.{drop_more, get_or_past, take_rest, length-map}
use Rattle.std.proofs.lemmas.List.FromFn.{length-range_with_len}
use Rattle.std.proofs.lemmas.Bool.{cases_Bool, cases_lt, false≢true, le-ltb}
use Rattle.std.proofs.lemmas.List.Sums.{passes_at_first}
use Rattle.std.specs.List.{list_any, position_or_len, range_with_len}
use Rattle.dip_map.specs.declared.boards.Dislodged.{Dislodged}
use Rattle.dip_names.specs.declared.names.Unit.{Unit as AUnit}
use Rattle.dip_map_chart.specs.Charts.{Chart, Province, Realm, IsMap, provs, no_province, no_realm, is_centre, are_units_single}
use Rattle.dip_map.specs.Boards.{IsOf, is_power_if_any, owner_at, opening}

owners_count : (m : Chart) → length (map (owner_at m) (provs m)) ≡ length m.provinces
owners_count m = length-map (provs m) (owner_at m) ∙ length-range_with_len 0 (length m.provinces)

-- a unit's test over what was dislodged
left_by : (f : AUnit → Bool) (ds : List Dislodged) → list_any f (map (λ d. d.unit) ds) ≡ list_any (λ d. f d.unit) ds
left_by f [] = refl
left_by f (d ∷ ds) = ap (λ (b : Bool). f d.unit || b) (left_by f ds)

-- the next of what was dislodged, and what is after it
pub dislodged_step : (ds : List Dislodged) (i : ℕ) (d : Dislodged) → i < length ds → d ≡ get_or ds i d → are_units_single (map (λ x. x.unit) (drop i ds))
    ≡ (not (list_any (λ x. x.unit.place.prov == d.unit.place.prov) (take (length ds - (i + 1)) (drop (i + 1) ds))) && are_units_single (map (λ x. x.unit) (drop (i + 1) ds)))
dislodged_step ds i d h is =
    let rest : List Dislodged = drop (i + 1) ds in
    let cut : drop i ds ≡ d ∷ rest = drop_more ds i d h ∙ ap (λ (x : Dislodged). x ∷ rest) (sym is) in
    rw (cut, take_rest ds (i + 1)) (ap (λ (b : Bool). not b && are_units_single (map (λ x. x.unit) rest)) (left_by (λ v. v.place.prov == d.unit.place.prov) rest))

-- a number that is answered only below a bound is below it
below_bound : (m : Chart) (n : ℕ) → is_power_if_any m (cond (nat_lt n (length m.realms)) (Some n) None) ≡ true
below_bound m n =
    elim (cases_Bool (nat_lt n (length m.realms))) [
      | inl low ↦ rw (low, low) refl
      | inr past ↦ rw past refl
    ]

owner_within : (m : Chart) (p : ℕ) → is_power_if_any m (owner_at m p) ≡ true
owner_within m p = below_bound m (position_or_len (λ r. list_any (λ x. x == p) r.home) m.realms)

owners_within : (m : Chart) (ps : List ℕ) (k : ℕ) (d : Option ℕ) → k < length (map (owner_at m) ps) → is_power_if_any m (get_or (map (owner_at m) ps) k d) ≡ true
owners_within m [] k d h = absurd (omega arith)
owners_within m (p ∷ ps) zero d h = owner_within m p
owners_within m (p ∷ ps) (suc k) d h = let low : k < length (map (owner_at m) ps) = omega arith in owners_within m ps k d low

-- who owns a province at the opening has it as a home, which is a centre
owned_home : (m : Chart) → IsMap m → (p : ℕ) → is_some (owner_at m p) ≡ true → is_centre m p ≡ true
owned_home m ok p h =
    let test : Realm → Bool = λ r. list_any (λ x. x == p) r.home in
    elim (cases_lt (position_or_len test m.realms) (length m.realms)) [
      | inl low ↦ ok.homes_centres p (position_or_len test m.realms) (passes_at_first test m.realms no_realm low)
      | inr past ↦ absurd (false≢true (rw (le-ltb _ _ past) at h))
    ]

owned_home_at : (m : Chart) → IsMap m → (i n : ℕ) (k : ℕ) → is_some (get_or (map (owner_at m) (range_with_len i n)) k None) ≡ true → is_centre m (i + k) ≡ true
owned_home_at m ok i zero k h = absurd (false≢true h)
owned_home_at m ok i (suc n) zero h = let e : i + 0 ≡ i = omega arith in rw e (owned_home m ok i h)
owned_home_at m ok i (suc n) (suc k) h = let e : i + suc k ≡ (i + 1) + k = omega arith in rw e (owned_home_at m ok (i + 1) n k h)

-- its units stand each at a place of the map and alone, and home centres have their owners
pub opening_law : (m : Chart) → IsMap m → IsOf m (opening m)
opening_law m ok = record {
  units = ok.units;
  apart = ok.openings_single;
  dislodged = λ k d h. absurd (omega arith);
  dislodged_apart = refl;
  standoff = λ k d h. absurd (omega arith);
  standoff_once = refl;
  standoff_empty = λ k d h. absurd (omega arith);
  owners = owners_within m (provs m);
  owners_count = owners_count m;
  owners_centres = λ p h. let z : 0 + p ≡ p = omega arith in rw z at (owned_home_at m ok 0 (length m.provinces) p h);
}

-- a centre is a province of the map
pub centre_low : (m : Chart) (p : ℕ) → is_centre m p ≡ true → p < length m.provinces
centre_low m p h =
    elim (cases_lt p (length m.provinces)) [
      | inl low ↦ low
      | inr past ↦ absurd (false≢true (subst (λ (r : Province). r.centre ≡ true) (get_or_past m.provinces p no_province past) h))
    ]
