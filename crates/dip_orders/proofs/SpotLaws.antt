-- What is printed of a place, and that it names it.
use Rattle.std.proofs.Common.{◌≡◌, ℕ, ◌<◌, ◌==◌, Bool, true, not, get_or, length, List, [], ◌∷◌, ◌++◌, refl, sym, ◌∙◌, ap, inl, inr, arith, nat_le, nat_lt, ◌&&◌, Option, Some, None, is_some}
use Rattle.std.proofs.lemmas.Bool.{and_parts, false≢true, cases_Bool, eqb-true, ltb-true}
use Rattle.std.proofs.lemmas.List.{append-nil}
use Rattle.std.proofs.lemmas.List.Folds.{list_all_at}
use Rattle.std.specs.List.{list_all}
use Rattle.std.specs.Option.{unwrap_or}
use Rattle.std.specs.Cmp.Derive.{both_true}
use Rattle.dip_names.specs.declared.names.Kind.{Kind}
use Rattle.dip_names.specs.declared.names.Kind.TheVariants.{Army, Fleet}
use Rattle.dip_names.specs.declared.names.Terrain.{Terrain}
use Rattle.dip_names.specs.declared.names.Terrain.TheVariants.{Inland, Coast, Sea}
use Rattle.dip_names.specs.declared.names.Place.{Place}
use Rattle.dip_map.specs.Charts.{Chart, Province, Shore, IsMap, no_shore, province, shore, prov_of, coast_of, is_shaped, is_code, is_full_name, is_coast_name, has_one_shore, has_named_shores, is_fleet_place, may_stand}
use Rattle.dip_orders_lines.specs.Forms.{are_letters, coast_text, is_coast, spot_text, is_spot}
use Rattle.dip_orders_lines.specs.declared.forms.Spot.{Spot}
use Rattle.dip_orders_lines.specs.declared.forms.Mention.{Mention}
use Rattle.dip_orders.specs.Conditions.{is_on_map, prov_named, knows_coast}
use Rattle.dip_orders.specs.Texts.{behind_slash, place_text}
use Rattle.dip_orders_placed.proofs.FindLaws.{some_is, position_low}

-- a coast's name as it is written, none where it is empty
abbrev pub written : List ℕ → Option (List ℕ)
written [] = None
written (b ∷ bs) = Some (b ∷ bs)

-- the coast that is printed of a place
abbrev pub coast_for : Chart → Kind → Place → Option (List ℕ)
coast_for m Army a = None
coast_for m Fleet a = written (shore m a).name

-- what is printed of a place
abbrev pub spot_of : Chart → Kind → Place → Spot
spot_of m k a = record { code = (province m a.prov).code; coast = coast_for m k a }

-- what is printed of a province alone
abbrev pub bare_spot : Chart → ℕ → Spot
bare_spot m p = record { code = (province m p).code; coast = None }

-- what is printed of a unit
abbrev pub mention_of : Chart → Kind → Place → Mention
mention_of m k a = record { kind = k; at = spot_of m k a }

slash_text : (name : List ℕ) → behind_slash name ≡ coast_text (written name)
slash_text [] = refl
slash_text (b ∷ bs) = refl

pub place_spot : (m : Chart) (k : Kind) (a : Place) → place_text m k a ≡ spot_text (spot_of m k a)
place_spot m Army a = sym (append-nil (province m a.prov).code)
place_spot m Fleet a = ap (λ x. (province m a.prov).code ++ x) (slash_text (shore m a).name)

-- the place is one of the map, for its kind
abbrev pub IsPlaceOf : Chart → Kind → Place → Type 0
IsPlaceOf m Army a = a.prov < length m.provinces
IsPlaceOf m Fleet a = is_fleet_place m a ≡ true

pub place_low : (m : Chart) (k : Kind) (a : Place) → IsPlaceOf m k a → a.prov < length m.provinces
place_low m Army a h = h
place_low m Fleet a h = ltb-true _ _ (and_parts (nat_lt a.prov (length m.provinces)) (nat_lt a.coast (length (province m a.prov).shores)) h).0

pub stands_at : (m : Chart) (k : Kind) (a : Place) → may_stand m k a ≡ true → IsPlaceOf m k a
stands_at m Army a h = ltb-true _ _ (and_parts _ _ h).0
stands_at m Fleet a h = h

code_letters : (m : Chart) → IsMap m → (p : ℕ) → p < length m.provinces → are_letters 3 (province m p).code ≡ true
code_letters m ok p low = (and_parts (is_code (province m p).code) (is_full_name (province m p).name && is_shaped (province m p).terrain (province m p)) (ok.provinces p low)).0

pub shape_of : (m : Chart) → IsMap m → (p : ℕ) → p < length m.provinces → is_shaped (province m p).terrain (province m p) ≡ true
shape_of m ok p low =
    let (_, more) = and_parts (is_code (province m p).code) (is_full_name (province m p).name && is_shaped (province m p).terrain (province m p)) (ok.provinces p low) in
    (and_parts (is_full_name (province m p).name) (is_shaped (province m p).terrain (province m p)) more).1

-- what a test says of each element it says of the one at an index
pub test_at : {A : Type 0} (f : A → Bool) (xs : List A) (k : ℕ) (d : A) → list_all f xs ≡ true → k < length xs → f (get_or xs k d) ≡ true
test_at f xs k d a h =
    elim (cases_Bool (f (get_or xs k d))) [
      | inl holds ↦ holds
      | inr fails ↦ absurd (false≢true (sym (list_all_at f xs k d h fails) ∙ a))
    ]

-- a coast of a well-formed province has no name, or one of two letters
unnamed : (s : Shore) → (length s.name == 0) ≡ true → is_coast (written s.name) ≡ true
unnamed s h = nameless s.name (eqb-true _ _ h)
  where
    nameless : (t : List ℕ) → length t ≡ 0 → is_coast (written t) ≡ true
    nameless [] e = refl
    nameless (b ∷ bs) e = absurd (omega arith)

named : (s : Shore) → is_coast_name s.name ≡ true → is_coast (written s.name) ≡ true
named s h = lettered s.name h
  where
    lettered : (t : List ℕ) → is_coast_name t ≡ true → is_coast (written t) ≡ true
    lettered [] e = refl
    lettered (b ∷ bs) e = e

one_shore : (ss : List Shore) (k : ℕ) → has_one_shore ss ≡ true → k < length ss → is_coast (written (get_or ss k no_shore).name) ≡ true
one_shore ss k h low =
    let (few, all) = and_parts (length ss == 1) (list_all (λ s. length s.name == 0) ss) h in
    unnamed (get_or ss k no_shore) (test_at (λ s. length s.name == 0) ss k no_shore all low)

named_shore : (ss : List Shore) (k : ℕ) → has_named_shores ss ≡ true → k < length ss → is_coast (written (get_or ss k no_shore).name) ≡ true
named_shore ss k h low =
    let (least, most) = and_parts (nat_le 2 (length ss)) (nat_le (length ss) 4 && list_all (λ s. is_coast_name s.name) ss) h in
    let (few, all) = and_parts (nat_le (length ss) 4) (list_all (λ s. is_coast_name s.name) ss) most in
    named (get_or ss k no_shore) (test_at (λ s. is_coast_name s.name) ss k no_shore all low)

shaped_shore : (t : Terrain) (r : Province) (k : ℕ) → is_shaped t r ≡ true → k < length r.shores → is_coast (written (get_or r.shores k no_shore).name) ≡ true
shaped_shore Inland r k h low = absurd (omega (arith, eqb-true _ _ h))
shaped_shore Coast r k h low =
    elim (cases_Bool (has_one_shore r.shores)) [
      | inl one ↦ one_shore r.shores k one low
      | inr several ↦ named_shore r.shores k (rw several at h) low
    ]
shaped_shore Sea r k h low = one_shore r.shores k (and_parts (has_one_shore r.shores) ((length r.army == 0) && not r.centre) h).0 low

-- what is printed of a place is a word of a place
pub spot_fine : (m : Chart) → IsMap m → (k : Kind) (a : Place) → IsPlaceOf m k a → is_spot (spot_of m k a) ≡ true
spot_fine m ok Army a low = both_true (code_letters m ok a.prov low) refl
spot_fine m ok Fleet a at =
    let (on, there) = and_parts (nat_lt a.prov (length m.provinces)) (nat_lt a.coast (length (province m a.prov).shores)) at in
    let low = ltb-true _ _ on in
    both_true (code_letters m ok a.prov low) (shaped_shore (province m a.prov).terrain (province m a.prov) a.coast (shape_of m ok a.prov low) (ltb-true _ _ there))

pub bare_fine : (m : Chart) → IsMap m → (p : ℕ) → p < length m.provinces → is_spot (bare_spot m p) ≡ true
bare_fine m ok p low = both_true (code_letters m ok p low) refl

-- a province that is named is one of the map
pub named_low : (m : Chart) (s : Spot) → is_on_map m s ≡ true → prov_named m s < length m.provinces
named_low m s h = position_low _ m.provinces (prov_named m s) (some_is (prov_of m s.code) (length m.provinces) h)

-- the code of a province names it
pub code_named : (m : Chart) → IsMap m → (p : ℕ) (coast : Option (List ℕ)) → p < length m.provinces → prov_named m (record { code = (province m p).code; coast = coast }) ≡ p
code_named m ok p coast low = ap (λ o. unwrap_or o (length m.provinces)) (ok.codes_found p low)

pub code_on_map : (m : Chart) → IsMap m → (p : ℕ) (coast : Option (List ℕ)) → p < length m.provinces → is_on_map m (record { code = (province m p).code; coast = coast }) ≡ true
code_on_map m ok p coast low = ap (λ o. is_some o) (ok.codes_found p low)

-- the coast that is printed of a place is one of its province
pub knows_own : (m : Chart) → IsMap m → (k : Kind) (a : Place) → IsPlaceOf m k a → knows_coast m a.prov (coast_for m k a) ≡ true
knows_own m ok Army a at = refl
knows_own m ok Fleet a at = by_name (shore m a).name (ok.coasts_found a (ltb-true _ _ (and_parts (nat_lt a.prov (length m.provinces)) (nat_lt a.coast (length (province m a.prov).shores)) at).1))
  where
    by_name : (name : List ℕ) → coast_of m a.prov name ≡ Some a.coast → knows_coast m a.prov (written name) ≡ true
    by_name [] h = refl
    by_name (b ∷ bs) h = ap (λ x. is_some x) h
