-- A map that a text states is the one that its file tells.
use Rattle.std.specs.Prelude.{slice_get, option_and_then}
use Rattle.std.specs.Cmp.Derive.{both_true}
use Rattle.std.proofs.lemmas.List.{take_at, drop_at}
use Rattle.std.proofs.lemmas.Option.{slice_get-get_or}
use Rattle.dip_names.specs.declared.names.Place.{Place}
use Rattle.dip_names.specs.Forms.{is_code}
use Rattle.std.proofs.Common.{◌≡◌, ◌↔◌, ℕ, ◌<◌, ◌+◌, ◌==◌, zero, suc, length, get_or, Contains, Bool, true, false, List, [], ◌∷◌, codes, refl, sym, ◌∙◌, ap, subst, inl, inr, arith, cond, Option, Some, None, Result, Ok, Err, ◌&&◌, nat_lt, take, drop}
use Rattle.std.proofs.lemmas.Bool.{cases_Bool, eqb-true, eq-eqb, false≢true, and_parts, lt-ltb, ltb-true}
use Rattle.std.proofs.lemmas.List.Quantifiers.{position-Some}
use Rattle.std.proofs.lemmas.Slice.Eq.{bytes_eq-Decides}
use Rattle.std.specs.List.{list_any, position}
use Rattle.std.specs.Str.{bytes_eq}
use Rattle.dip_names.specs.declared.faults.MapFault.{MapFault}
use Rattle.dip_names.specs.declared.faults.MapFault.TheVariants.{OverLimit}
use Rattle.dip_names.specs.declared.names.Terrain.TheVariants.{Inland}
use Rattle.dip_names.specs.Results.{◌>>=◌}
use Rattle.dip_map_file.specs.Drafts.{Draft, PowerDraft, ProvinceDraft, Site, ShoreDraft}
use Rattle.dip_map_file.specs.Files as files
use Rattle.dip_map_file.specs.Tables.{HasTable, Members, Names, Says, get_member, parse_document, FleetNames, behind_slash, site_text, terrain_word}
use Rattle.dip_map_laws.proofs.FileLaws.{ListsCodes, ProvinceRead, ReadFile, bind_ok, contains_first, contains_more, element_cases, file_read, flag_is, member_at, power_read, province_read, terrain_is, ListsShore, no_shore_draft, shore_told}
use Rattle.dip_map_chart.specs.Charts.{Chart, IsMap, Province, Realm, army_next, home, no_province, no_realm, prov_of, province, realm, Shore, coast_of, is_fleet_next, is_fleet_place, no_shore, shore}
use Rattle.dip_map_chart.specs.Checks.{first_fault}
use Rattle.dip_map.specs.Checked.{check, check_by}
use Rattle.dip_map_text.specs.Stated.{chart_at, chart_of, each, each_from, is_few, or_unknown, within_limits, parts_at, prov_at, province_at, realm_at, shore_at, map_in, unit_at, coast_at, place_at}
use Rattle.dip_map_laws.specs.Spelled.{site_of}
use Rattle.dip_map_laws.specs.Telling.{IsTold, IsToldPower, StatesWhatItTells, place_text}

-- what stands for a draft that isn't there
abbrev pub no_draft : ProvinceDraft
no_draft = record { code = []; name = []; terrain = Inland; centre = false; army = []; shores = [] }

abbrev no_power : PowerDraft
no_power = record { name = []; home = []; units = [] }

-- what was looked up for each of a list
each_to : {A B : Type 0} (f : A → Result B MapFault) (xs : List A) (ys : List B) → each f xs ≡ Ok ys → (x : A) → Contains xs x → (y : B) × Contains ys y × (f x ≡ Ok y)
each_to f [] ys h x c = absurd (omega (arith, c.1))
each_to f (z ∷ zs) ys h x c =
    let (y, first, rest) = bind_ok (f z) (λ y. each f zs >>= λ more. Ok (y ∷ more)) ys h in
    let (more, others, all) = bind_ok (each f zs) (λ more. Ok (y ∷ more)) ys rest in
    let e : y ∷ more ≡ ys = cc in
    elim (element_cases z zs x c.0 c.1 c.2) [
      | inl is ↦ (y, subst (λ us. Contains us y) e (contains_first y more), ap f (sym is) ∙ first)
      | inr behind ↦ let (u, there, found) = each_to f zs more others x behind in (u, subst (λ us. Contains us u) e (contains_more y u more there), found)
    ]

each_back : {A B : Type 0} (f : A → Result B MapFault) (xs : List A) (ys : List B) → each f xs ≡ Ok ys → (y : B) → Contains ys y → (x : A) × Contains xs x × (f x ≡ Ok y)
each_back f [] ys h y c =
    let e : [] ≡ ys = cc in
    absurd (omega (arith, c.1, ap (λ us. length us) e))
each_back f (z ∷ zs) ys h y c =
    let (first, found, rest) = bind_ok (f z) (λ u. each f zs >>= λ more. Ok (u ∷ more)) ys h in
    let (more, others, all) = bind_ok (each f zs) (λ more. Ok (first ∷ more)) ys rest in
    let e : ys ≡ first ∷ more = cc in
    let there : Contains (first ∷ more) y = subst (λ us. Contains us y) e c in
    elim (element_cases first more y there.0 there.1 there.2) [
      | inl is ↦ (z, contains_first z zs, found ∙ ap (λ u. Ok u) is)
      | inr behind ↦ let (x, among, made) = each_back f zs more others y behind in (x, contains_more z x zs among, made)
    ]

pub each_at : {A B : Type 0} (f : A → Result B MapFault) (xs : List A) (ys : List B) → each f xs ≡ Ok ys → (i : ℕ) (a : A) (b : B) → i < length ys → f (get_or xs i a) ≡ Ok (get_or ys i b)
each_at f [] ys h i a b low =
    let e : [] ≡ ys = cc in
    absurd (omega (arith, low, ap (λ us. length us) e))
each_at f (z ∷ zs) ys h zero a b low =
    let (first, found, rest) = bind_ok (f z) (λ u. each f zs >>= λ more. Ok (u ∷ more)) ys h in
    let (more, others, all) = bind_ok (each f zs) (λ more. Ok (first ∷ more)) ys rest in
    let e : first ∷ more ≡ ys = cc in
    subst (λ us. f z ≡ Ok (get_or us 0 b)) e found
each_at f (z ∷ zs) ys h (suc i) a b low =
    let (first, found, rest) = bind_ok (f z) (λ u. each f zs >>= λ more. Ok (u ∷ more)) ys h in
    let (more, others, all) = bind_ok (each f zs) (λ more. Ok (first ∷ more)) ys rest in
    let e : first ∷ more ≡ ys = cc in
    let below : suc i < length (first ∷ more) = subst (λ us. suc i < length us) (sym e) low in
    subst (λ us. f (get_or zs i a) ≡ Ok (get_or us (suc i) b)) e (each_at f zs more others i a b (omega (arith, below)))

each_from_at : {A B : Type 0} (f : ℕ → A → Result B MapFault) (k : ℕ) (xs : List A) (ys : List B) → each_from f k xs ≡ Ok ys → (i : ℕ) (a : A) (b : B) → i < length ys
    → (n : ℕ) × (f n (get_or xs i a) ≡ Ok (get_or ys i b))
each_from_at f k [] ys h i a b low =
    let e : [] ≡ ys = cc in
    absurd (omega (arith, low, ap (λ us. length us) e))
each_from_at f k (z ∷ zs) ys h zero a b low =
    let (first, found, rest) = bind_ok (f k z) (λ u. each_from f (k + 1) zs >>= λ more. Ok (u ∷ more)) ys h in
    let (more, others, all) = bind_ok (each_from f (k + 1) zs) (λ more. Ok (first ∷ more)) ys rest in
    let e : first ∷ more ≡ ys = cc in
    (k, subst (λ us. f k z ≡ Ok (get_or us 0 b)) e found)
each_from_at f k (z ∷ zs) ys h (suc i) a b low =
    let (first, found, rest) = bind_ok (f k z) (λ u. each_from f (k + 1) zs >>= λ more. Ok (u ∷ more)) ys h in
    let (more, others, all) = bind_ok (each_from f (k + 1) zs) (λ more. Ok (first ∷ more)) ys rest in
    let e : first ∷ more ≡ ys = cc in
    let below : suc i < length (first ∷ more) = subst (λ us. suc i < length us) (sym e) low in
    let (n, is) = each_from_at f (k + 1) zs more others i a b (omega (arith, below)) in
    (n, subst (λ us. f n (get_or zs i a) ≡ Ok (get_or us (suc i) b)) e is)

-- the parts of the map that a draft states
pub record ChartRead (d : Draft) (m : Chart) : Type 0 where
  pub name : d.name ≡ m.name
  pub realms : each_from (realm_at d) 0 d.powers ≡ Ok m.realms
  pub provinces : each (province_at d) d.provinces ≡ Ok m.provinces

pub passes : (o : Option MapFault) (n m : Chart) → check_by o n ≡ Ok m → n ≡ m
passes None n m h = cc
passes (Some e) n m h = absurd (cc)

within : (t : Bool) (d e : Draft) → cond t (Ok d) (Err OverLimit) ≡ Ok e → d ≡ e
within true d e h = cc
within false d e h = absurd (cc)

abbrev with_provinces : Draft → List Realm → List Province → Result Chart MapFault
with_provinces d realms provinces = Ok (record { name = d.name; realms = realms; provinces = provinces })

abbrev with_realms : Draft → List Realm → Result Chart MapFault
with_realms d realms = each (province_at d) d.provinces >>= with_provinces d realms

pub chart_read : (d : Draft) (m : Chart) → chart_of d ≡ Ok m → ChartRead d m
unfolding chart_at
chart_read d m h =
    let (n, parts, last_check) = bind_ok (parts_at d) check m h in
    let (e, few, made) = bind_ok (within_limits d) chart_at n parts in
    let same : e ≡ d = sym (within (is_few d) d e few) in
    let at : chart_at d ≡ Ok n = subst (λ x. chart_at x ≡ Ok n) same made in
    let (realms, r, rest) = bind_ok (each_from (realm_at d) 0 d.powers) (with_realms d) n at in
    let (provinces, p, last) = bind_ok (each (province_at d) d.provinces) (with_provinces d realms) n rest in
    let is : record { name = d.name; realms = realms; provinces = provinces } ≡ n = cc in
    let whole : record { name = d.name; realms = realms; provinces = provinces } ≡ m = is ∙ passes (first_fault n) n m last_check in
    subst (λ (x : Chart). ChartRead d x) whole (record { name = refl; realms = r; provinces = p })

-- a province and a power of the map, and their drafts
pub record OfDraft (d : Draft) (w : ProvinceDraft) (r : Province) : Type 0 where
  pub code : w.code ≡ r.code
  pub name : w.name ≡ r.name
  pub terrain : w.terrain ≡ r.terrain
  pub centre : w.centre ≡ r.centre
  pub army : each (prov_at d) w.army ≡ Ok r.army
  pub shores : each (shore_at d) w.shores ≡ Ok r.shores

pub of_draft : (d : Draft) (w : ProvinceDraft) (r : Province) → province_at d w ≡ Ok r → OfDraft d w r
unfolding province_at
of_draft d w r h =
    let (army, a, rest) = bind_ok (each (prov_at d) w.army) (λ next. each (shore_at d) w.shores >>= λ shores. Ok (record { code = w.code; name = w.name; terrain = w.terrain; centre = w.centre; army = next; shores = shores })) r h in
    let (shores, s, last) = bind_ok (each (shore_at d) w.shores) (λ shores. Ok (record { code = w.code; name = w.name; terrain = w.terrain; centre = w.centre; army = army; shores = shores })) r rest in
    let is : record { code = w.code; name = w.name; terrain = w.terrain; centre = w.centre; army = army; shores = shores } ≡ r = cc in
    subst (λ (x : Province). OfDraft d w x) is (record { code = refl; name = refl; terrain = refl; centre = refl; army = a; shores = s })

record OfPower (d : Draft) (w : PowerDraft) (r : Realm) : Type 0 where
  pub name : w.name ≡ r.name
  pub home : each (prov_at d) w.home ≡ Ok r.home

of_power : (d : Draft) (n : ℕ) (w : PowerDraft) (r : Realm) → realm_at d n w ≡ Ok r → OfPower d w r
unfolding realm_at
of_power d n w r h =
    let (homes, a, rest) = bind_ok (each (prov_at d) w.home) (λ home. each (unit_at d n) w.units >>= λ units. Ok (record { name = w.name; home = home; units = units })) r h in
    let (units, u, last) = bind_ok (each (unit_at d n) w.units) (λ units. Ok (record { name = w.name; home = homes; units = units })) r rest in
    let is : record { name = w.name; home = homes; units = units } ≡ r = cc in
    subst (λ (x : Realm). OfPower d w x) is (record { name = refl; home = a })

-- the draft of a province of the map
pub province_of : (d : Draft) (m : Chart) → ChartRead d m → (p : ℕ) → p < length m.provinces → OfDraft d (get_or d.provinces p no_draft) (province m p)
province_of d m c p low = of_draft d (get_or d.provinces p no_draft) (province m p) (each_at (province_at d) d.provinces m.provinces c.provinces p no_draft no_province low)

power_at : (d : Draft) (m : Chart) → ChartRead d m → (r : ℕ) → r < length m.realms → OfPower d (get_or d.powers r no_power) (realm m r)
power_at d m c r low =
    let (n, is) = each_from_at (realm_at d) 0 d.powers m.realms c.realms r no_power no_realm low in
    of_power d n (get_or d.powers r no_power) (realm m r) is

pub lengths : {A B : Type 0} (f : A → Result B MapFault) (xs : List A) (ys : List B) → each f xs ≡ Ok ys → length xs ≡ length ys
lengths f [] ys h = let e : [] ≡ ys = cc in ap (λ us. length us) e
lengths f (z ∷ zs) ys h =
    let (first, found, rest) = bind_ok (f z) (λ u. each f zs >>= λ more. Ok (u ∷ more)) ys h in
    let (more, others, all) = bind_ok (each f zs) (λ more. Ok (first ∷ more)) ys rest in
    let e : first ∷ more ≡ ys = cc in
    ap (λ n. suc n) (lengths f zs more others) ∙ ap (λ us. length us) e

pub lengths_from : {A B : Type 0} (f : ℕ → A → Result B MapFault) (k : ℕ) (xs : List A) (ys : List B) → each_from f k xs ≡ Ok ys → length xs ≡ length ys
lengths_from f k [] ys h = let e : [] ≡ ys = cc in ap (λ us. length us) e
lengths_from f k (z ∷ zs) ys h =
    let (first, found, rest) = bind_ok (f k z) (λ u. each_from f (k + 1) zs >>= λ more. Ok (u ∷ more)) ys h in
    let (more, others, all) = bind_ok (each_from f (k + 1) zs) (λ more. Ok (first ∷ more)) ys rest in
    let e : first ∷ more ≡ ys = cc in
    ap (λ n. suc n) (lengths_from f (k + 1) zs more others) ∙ ap (λ us. length us) e

pub or_unknown_ok : {A : Type 0} (o : Option A) (x : A) → or_unknown o ≡ Ok x → o ≡ Some x
or_unknown_ok None x h = absurd (cc)
or_unknown_ok (Some y) x h = let e : y ≡ x = cc in ap (λ z. Some z) e

-- what a code was looked up to has that code
pub looked_up : (d : Draft) (m : Chart) → ChartRead d m → (code : List ℕ) (q : ℕ) → prov_at d code ≡ Ok q → (q < length m.provinces) × ((province m q).code ≡ code)
unfolding prov_at
looked_up d m c code q h =
    let (low, here, first) = position-Some (λ w. bytes_eq w.code code) d.provinces q no_draft (or_unknown_ok (position (λ w. bytes_eq w.code code) d.provinces) q h) in
    let there : q < length m.provinces = subst (λ n. q < n) (lengths (province_at d) d.provinces m.provinces c.provinces) low in
    (there, sym (province_of d m c q there).code ∙ (bytes_eq-Decides (get_or d.provinces q no_draft).code code).0 here)

-- of the provinces of a map one has the code
one_code : (m : Chart) → IsMap m → (p q : ℕ) → p < length m.provinces → q < length m.provinces → (province m p).code ≡ (province m q).code → p ≡ q
one_code m ok p q low other same =
    let is : Some p ≡ Some q = sym (ok.codes_found p low) ∙ (ap (λ c. prov_of m c) same ∙ ok.codes_found q other) in
    cc

-- a list of provinces is the one that is written by their codes
listed : (d : Draft) (m : Chart) (t : Members) (key : List ℕ) (cs : List (List ℕ)) (ps : List ℕ) → IsMap m → ChartRead d m → ListsCodes t key cs → each (prov_at d) cs ≡ Ok ps
    → (q : ℕ) → q < length m.provinces → Contains ps q ↔ Names t key (province m q).code
listed d m t key cs ps ok c codes_of made q low = (to, back)
  where
    to : Contains ps q → Names t key (province m q).code
    to among =
        let (code, there, found) = each_back (prov_at d) cs ps made q among in
        codes_of.to (province m q).code (subst (λ x. Contains cs x) (sym (looked_up d m c code q found).1) there)

    back : Names t key (province m q).code → Contains ps q
    back names =
        let (x, there, found) = each_to (prov_at d) cs ps made (province m q).code (codes_of.from (province m q).code names) in
        let up = looked_up d m c (province m q).code x found in
        subst (λ n. Contains ps n) (one_code m ok x q up.0 low up.1) there

contains_any : (xs : List ℕ) (p : ℕ) → (list_any (λ x. x == p) xs ≡ true) ↔ Contains xs p
contains_any xs p = (to xs, back xs)
  where
    to : (ys : List ℕ) → list_any (λ x. x == p) ys ≡ true → Contains ys p
    to [] h = absurd (false≢true h)
    to (y ∷ ys) h =
        elim (cases_Bool (y == p)) [
          | inl here ↦ (0, omega arith, eqb-true y p here)
          | inr other ↦ contains_more y p ys (to ys (rw other at h))
        ]

    back : (ys : List ℕ) → Contains ys p → list_any (λ x. x == p) ys ≡ true
    back [] c = absurd (omega (arith, c.1))
    back (y ∷ ys) c =
        elim (element_cases y ys p c.0 c.1 c.2) [
          | inl is ↦ rw (eq-eqb y p is) refl
          | inr rest ↦
              elim (cases_Bool (y == p)) [
                | inl here ↦ rw here refl
                | inr other ↦ rw other (back ys rest)
              ]
        ]

-- a coast of the map, and its draft
pub record OfShore (d : Draft) (w : ShoreDraft) (s : Shore) : Type 0 where
  pub name : w.name ≡ s.name
  pub next : each (place_at d) w.next ≡ Ok s.next

pub of_shore : (d : Draft) (w : ShoreDraft) (s : Shore) → shore_at d w ≡ Ok s → OfShore d w s
unfolding shore_at
of_shore d w s h =
    let (next, a, rest) = bind_ok (each (place_at d) w.next) (λ next. Ok (record { name = w.name; next = next })) s h in
    let is : record { name = w.name; next = next } ≡ s = cc in
    subst (λ (x : Shore). OfShore d w x) is (record { name = refl; next = a })

shore_of : (d : Draft) (w : ProvinceDraft) (r : Province) → OfDraft d w r → (k : ℕ) → k < length r.shores → OfShore d (get_or w.shores k no_shore_draft) (get_or r.shores k no_shore)
shore_of d w r of k low = of_shore d (get_or w.shores k no_shore_draft) (get_or r.shores k no_shore) (each_at (shore_at d) w.shores r.shores of.shores k no_shore_draft no_shore low)

-- what a place was looked up to is written so
pub record Looked (m : Chart) (s : Site) (a : Place) : Type 0 where
  pub on : is_fleet_place m a ≡ true
  pub text : site_text s.code s.coast ≡ place_text m a
  pub site : s ≡ site_of m a

coast_found : (d : Draft) (q k : ℕ) (name : List ℕ) → q < length d.provinces → coast_at d q name ≡ Ok k
    → position (λ s. bytes_eq s.name name) (get_or d.provinces q no_draft).shores ≡ Some k
unfolding coast_at
coast_found d q k name low h =
    let found = or_unknown_ok (option_and_then (λ (l : ProvinceDraft). position (λ s. bytes_eq s.name name) l.shores) (slice_get d.provinces q)) k h in
    let there : slice_get d.provinces q ≡ Some (get_or d.provinces q no_draft) = slice_get-get_or d.provinces q no_draft low in
    ap (λ o. option_and_then (λ (l : ProvinceDraft). position (λ s. bytes_eq s.name name) l.shores) o) (sym there) ∙ found

pub looked_place : (d : Draft) (m : Chart) → ChartRead d m → (s : Site) (a : Place) → place_at d s ≡ Ok a → Looked m s a
unfolding place_at
looked_place d m c s a h =
    let (q, code, rest) = bind_ok (prov_at d s.code) (λ p. coast_at d p s.coast >>= λ k. Ok (record { prov = p; coast = k })) a h in
    let (k, coast, made) = bind_ok (coast_at d q s.coast) (λ k. Ok (record { prov = q; coast = k })) a rest in
    let is : record { prov = q; coast = k } ≡ a = cc in
    let (low, here) = looked_up d m c s.code q code in
    let count = lengths (province_at d) d.provinces m.provinces c.provinces in
    let of = province_of d m c q low in
    let w : ProvinceDraft = get_or d.provinces q no_draft in
    let (there, name, first) = position-Some (λ x. bytes_eq x.name s.coast) w.shores k no_shore_draft (coast_found d q k s.coast (omega (arith, count, low)) coast) in
    let few = lengths (shore_at d) w.shores (province m q).shores of.shores in
    let below : k < length (province m q).shores = omega (arith, few, there) in
    let named : (get_or (province m q).shores k no_shore).name ≡ s.coast = sym (shore_of d w (province m q) of k below).name ∙ (bytes_eq-Decides (get_or w.shores k no_shore_draft).name s.coast).0 name in
    subst (λ (x : Place). Looked m s x) is (record {
      on = both_true (lt-ltb _ _ low) (lt-ltb _ _ below);
      text = ap (λ x. site_text x s.coast) (sym here) ∙ ap (λ x. site_text (province m q).code x) (sym named);
      site = let code_is = sym here in let coast_is = sym named in λ i. record { code = code_is i; coast = coast_is i };
    })

code_length : (m : Chart) → IsMap m → (p : ℕ) → p < length m.provinces → length (province m p).code ≡ 3
code_length m ok p low =
    let (code, _) = and_parts (is_code (province m p).code) _ (ok.provinces p low) in
    eqb-true _ _ (and_parts (length (province m p).code == 3) _ code).0

unslashed : (m n : List ℕ) → behind_slash m ≡ behind_slash n → m ≡ n
unslashed [] [] h = refl
unslashed [] (y ∷ ys) h = absurd (cc)
unslashed (x ∷ xs) [] h = absurd (cc)
unslashed (x ∷ xs) (y ∷ ys) h = cc

-- of the places of a map one is written so
one_place : (m : Chart) → IsMap m → (a b : Place) → is_fleet_place m a ≡ true → is_fleet_place m b ≡ true → place_text m a ≡ place_text m b → a ≡ b
one_place m ok a b on other same =
    let (low, there) = and_parts (nat_lt a.prov (length m.provinces)) (nat_lt a.coast (length (province m a.prov).shores)) on in
    let (low_too, there_too) = and_parts (nat_lt b.prov (length m.provinces)) (nat_lt b.coast (length (province m b.prov).shores)) other in
    let three = code_length m ok a.prov (ltb-true _ _ low) in
    let three_too = code_length m ok b.prov (ltb-true _ _ low_too) in
    let name : List ℕ = (shore m a).name in
    let name_too : List ℕ = (shore m b).name in
    let codes_same : (province m a.prov).code ≡ (province m b.prov).code =
    sym (take_at (province m a.prov).code (behind_slash name) 3 three) ∙ (ap (λ x. take 3 x) same ∙ take_at (province m b.prov).code (behind_slash name_too) 3 three_too) in
    let slashed : behind_slash name ≡ behind_slash name_too =
    sym (drop_at (province m a.prov).code (behind_slash name) 3 three) ∙ (ap (λ x. drop 3 x) same ∙ drop_at (province m b.prov).code (behind_slash name_too) 3 three_too) in
    let prov : a.prov ≡ b.prov = one_code m ok a.prov b.prov (ltb-true _ _ low) (ltb-true _ _ low_too) codes_same in
    let names : name ≡ name_too = unslashed name name_too slashed in
    let found : coast_of m a.prov name ≡ Some a.coast = ok.coasts_found a (ltb-true _ _ there) in
    let found_too : coast_of m b.prov name_too ≡ Some b.coast = ok.coasts_found b (ltb-true _ _ there_too) in
    let is : Some a.coast ≡ Some b.coast = sym found ∙ (ap (λ p. coast_of m p name) prov ∙ (ap (λ x. coast_of m b.prov x) names ∙ found_too)) in
    let coast : a.coast ≡ b.coast = cc in
    λ i. record { prov = prov i; coast = coast i }

contains_place : (xs : List Place) (a : Place) → (list_any (λ x. (x.prov == a.prov) && (x.coast == a.coast)) xs ≡ true) ↔ Contains xs a
contains_place xs a = (to xs, back xs)
  where
    is_same : (x : Place) → ((x.prov == a.prov) && (x.coast == a.coast)) ≡ true → x ≡ a
    is_same x h =
        let (prov, coast) = and_parts (x.prov == a.prov) (x.coast == a.coast) h in
        let e : x.prov ≡ a.prov = eqb-true _ _ prov in
        let f : x.coast ≡ a.coast = eqb-true _ _ coast in
        λ i. record { prov = e i; coast = f i }

    to : (ys : List Place) → list_any (λ x. (x.prov == a.prov) && (x.coast == a.coast)) ys ≡ true → Contains ys a
    to [] h = absurd (false≢true h)
    to (y ∷ ys) h =
        elim (cases_Bool ((y.prov == a.prov) && (y.coast == a.coast))) [
          | inl here ↦ (0, omega arith, is_same y here)
          | inr other ↦ contains_more y a ys (to ys (rw other at h))
        ]

    back : (ys : List Place) → Contains ys a → list_any (λ x. (x.prov == a.prov) && (x.coast == a.coast)) ys ≡ true
    back [] c = absurd (omega (arith, c.1))
    back (y ∷ ys) c =
        elim (element_cases y ys a c.0 c.1 c.2) [
          | inl is ↦ rw (both_true (eq-eqb y.prov a.prov (ap (λ (x : Place). x.prov) is)) (eq-eqb y.coast a.coast (ap (λ (x : Place). x.coast) is))) refl
          | inr rest ↦
              elim (cases_Bool ((y.prov == a.prov) && (y.coast == a.coast))) [
                | inl here ↦ rw here refl
                | inr other ↦ rw other (back ys rest)
              ]
        ]

-- where a fleet goes from a coast
fleet_told : (d : Draft) (m : Chart) (p c : ℕ) (t : Members) (to : Place) → IsMap m → ChartRead d m → p < length m.provinces → ProvinceRead t (get_or d.provinces p no_draft)
    → c < length (province m p).shores → is_fleet_place m to ≡ true
    → (is_fleet_next m (record { prov = p; coast = c }) to ≡ true) ↔ FleetNames t (shore m (record { prov = p; coast = c })).name (place_text m to)
fleet_told d m p c t to ok read_map low read there on = (named, back)
  where
    w : ProvinceDraft
    w = get_or d.provinces p no_draft

    s : Shore
    s = get_or (province m p).shores c no_shore

    draft : OfShore d (get_or (get_or d.provinces p no_draft).shores c no_shore_draft) (get_or (province m p).shores c no_shore)
    draft = shore_of d (get_or d.provinces p no_draft) (province m p) (province_of d m read_map p low) c there

    told : ListsShore t (get_or (get_or d.provinces p no_draft).shores c no_shore_draft).name (get_or (get_or d.provinces p no_draft).shores c no_shore_draft).next
    told =
        let of = province_of d m read_map p low in
        let shores : List ShoreDraft = (get_or d.provinces p no_draft).shores in
        let count = lengths (shore_at d) shores (province m p).shores of.shores in
        let name : List ℕ = (get_or (province m p).shores c no_shore).name in
        let (_, here, first) = position-Some (λ x. bytes_eq x.name name) (province m p).shores c no_shore (ok.coasts_found (record { prov = p; coast = c }) there) in
        let same : (k : ℕ) → k < length (province m p).shores → (get_or shores k no_shore_draft).name ≡ (get_or (province m p).shores k no_shore).name = λ k l. (shore_of d (get_or d.provinces p no_draft) (province m p) of k l).name in
        shore_told (get_or d.provinces p no_draft).terrain t shores read.shores c (omega (arith, count, there)) (
          ap (λ x. bytes_eq x (get_or shores c no_shore_draft).name) (same c there) ∙ (ap (λ x. bytes_eq name x) (same c there) ∙ here),
          λ k l. ap (λ x. bytes_eq x (get_or shores c no_shore_draft).name) (same k (omega (arith, l, there))) ∙ (ap (λ x. bytes_eq (get_or (province m p).shores k no_shore).name x) (same c there) ∙ first k l),
        )

    named : is_fleet_next m (record { prov = p; coast = c }) to ≡ true → FleetNames t (get_or (province m p).shores c no_shore).name (place_text m to)
    named next =
        let among = (contains_place (get_or (province m p).shores c no_shore).next to).0 next in
        let (site, is_there, found) = each_back (place_at d) (get_or (get_or d.provinces p no_draft).shores c no_shore_draft).next (get_or (province m p).shores c no_shore).next draft.next to among in
        let written : FleetNames t (get_or (get_or d.provinces p no_draft).shores c no_shore_draft).name (site_text site.code site.coast) = told.to site is_there in
        subst (λ x. FleetNames t x (place_text m to)) draft.name
        (subst (λ x. FleetNames t (get_or (get_or d.provinces p no_draft).shores c no_shore_draft).name x) (looked_place d m read_map site to found).text written)

    back : FleetNames t (get_or (province m p).shores c no_shore).name (place_text m to) → is_fleet_next m (record { prov = p; coast = c }) to ≡ true
    back names =
        let (site, is_there, spelled) = told.from (place_text m to) (subst (λ x. FleetNames t x (place_text m to)) (sym draft.name) names) in
        let (y, among, found) = each_to (place_at d) (get_or (get_or d.provinces p no_draft).shores c no_shore_draft).next (get_or (province m p).shores c no_shore).next draft.next site is_there in
        let looked = looked_place d m read_map site y found in
        let is : y ≡ to = one_place m ok y to looked.on on (sym looked.text ∙ spelled) in
        (contains_place (get_or (province m p).shores c no_shore).next to).1 (subst (λ (x : Place). Contains (get_or (province m p).shores c no_shore).next x) is among)

is_told : (d : Draft) (m : Chart) (p : ℕ) (t : Members) → IsMap m → ChartRead d m → p < length m.provinces → ProvinceRead t (get_or d.provinces p no_draft) → IsTold m p t
is_told d m p t ok c low read =
    let w : ProvinceDraft = get_or d.provinces p no_draft in
    let of = province_of d m c p low in
    let flag = flag_is (get_member (codes "centre") t) w.centre read.flag in
    record {
      name = subst (λ x. Says t (codes "name") x) of.name read.name;
      terrain = subst (λ x. Says t (codes "kind") x) (terrain_is read.word w.terrain read.terrain ∙ ap terrain_word of.terrain) read.kind;
      centre = (λ is. flag.0 (of.centre ∙ is), λ set. sym of.centre ∙ flag.1 set);
      army = λ q there.
          let both = listed d m t (codes "army") w.army (army_next m p) ok c read.army of.army q there in
          let any = contains_any (army_next m p) q in
          (λ next. both.0 (any.0 next), λ names. any.1 (both.1 names));
      fleet = λ k to there on. fleet_told d m p k t to ok c low read there on;
    }

-- the table of a province
province_told : (file : Members) (d : Draft) (m : Chart) → IsMap m → ReadFile file d → ChartRead d m → (p : ℕ) → p < length m.provinces
    → (t : Members) × HasTable file (codes "provinces") (province m p).code t × IsTold m p t
province_told file d m ok f c p low =
    let code : List ℕ = (province m p).code in
    let (there, here, first) = position-Some (λ r. bytes_eq r.code code) m.provinces p no_province (ok.codes_found p low) in
    let same : (k : ℕ) → k < length m.provinces → (get_or d.provinces k no_draft).code ≡ (province m k).code = λ k l. (province_of d m c k l).code in
    let count = lengths (province_at d) d.provinces m.provinces c.provinces in
    let (v, member, read) = member_at files.province_at (λ (w : ProvinceDraft). w.code) (λ key v w h. (province_read key v w h).code_same) f.lands d.provinces f.provinces code p no_draft (omega (arith, count, low))
    (ap (λ x. bytes_eq x code) (same p low) ∙ here) (λ k l. ap (λ x. bytes_eq x code) (same k (omega (arith, l, low))) ∙ first k l) in
    let made = province_read code v (get_or d.provinces p no_draft) read in
    (made.fields, (f.lands, f.has_lands, member ∙ ap (λ x. Some x) made.is), is_told d m p made.fields ok c low made.read)

-- the table of a power
power_told : (file : Members) (d : Draft) (m : Chart) → IsMap m → ReadFile file d → ChartRead d m → (r : ℕ) → r < length m.realms
    → (t : Members) × HasTable file (codes "powers") (realm m r).name t × IsToldPower m r t
power_told file d m ok f c r low =
    let name : List ℕ = (realm m r).name in
    let (there, here, first) = position-Some (λ x. bytes_eq x.name name) m.realms r no_realm (ok.names_found r low) in
    let same : (k : ℕ) → k < length m.realms → (get_or d.powers k no_power).name ≡ (realm m k).name = λ k l. (power_at d m c k l).name in
    let count = lengths_from (realm_at d) 0 d.powers m.realms c.realms in
    let (v, member, read) = member_at files.power_at (λ (w : PowerDraft). w.name) (λ key v w h. (power_read key v w h).name_same) f.realms d.powers f.powers name r no_power (omega (arith, count, low))
    (ap (λ x. bytes_eq x name) (same r low) ∙ here) (λ k l. ap (λ x. bytes_eq x name) (same k (omega (arith, l, low))) ∙ first k l) in
    let made = power_read name v (get_or d.powers r no_power) read in
    let of = power_at d m c r low in (
      made.fields,
      (f.realms, f.has_realms, member ∙ ap (λ x. Some x) made.is),
      record { home = λ p there. listed d m made.fields (codes "home") (get_or d.powers r no_power).home (home m r) ok c made.read.home of.home p there },
    )

found_file : (o : Option Members) (file : Members) → files.or_no_toml o ≡ Ok file → o ≡ Some file
found_file None file h = absurd (cc)
found_file (Some x) file h = let e : x ≡ file = cc in ap (λ z. Some z) e

pub parsed_file : (text : List ℕ) (file : Members) → files.file_in text ≡ Ok file → parse_document text ≡ Some file
unfolding files.file_in
parsed_file text file h = found_file (parse_document text) file h

-- what is read of a text is what its file tells, table by table
pub states_what_it_tells : StatesWhatItTells
unfolding map_in
states_what_it_tells text m ok h =
    let (file, parsed, rest) = bind_ok (files.file_in text) (λ file. files.draft_at file >>= chart_of) m h in
    let (d, drafted, made) = bind_ok (files.draft_at file) chart_of m rest in
    let f = file_read file d drafted in
    let c = chart_read d m made in (
      file,
      parsed_file text file parsed,
      record {
        name = subst (λ x. Says file (codes "name") x) c.name f.name;
        provinces = λ p low. province_told file d m ok f c p low;
        powers = λ r low. power_told file d m ok f c r low;
      },
    )
