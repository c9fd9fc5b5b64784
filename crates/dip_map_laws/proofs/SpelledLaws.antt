-- A text states a map just where it spells it.
use Rattle.std.proofs.Common.{◌≡◌, ℕ, ◌<◌, ◌+◌, ◌==◌, ◌&&◌, ◌||◌, not, nat_le, nat_lt, suc, length, map, get_or, Bool, true, false, List, [], ◌∷◌, refl, sym, ◌∙◌, ap, subst, inl, inr, arith, cond, Some, None, Result, Ok, slice_get, option_and_then, option_map, zero-add}
use Rattle.std.proofs.lemmas.Bool.{and_from, and_parts, eqb-true, false≢true, le-leb, ltb-true, or_cases}
use Rattle.std.proofs.lemmas.List.{length-map}
use Rattle.std.proofs.lemmas.List.Elements.{recursion_from_All}
use Rattle.std.proofs.lemmas.Option.{slice_get-get_or, slice_get-map}
use Rattle.std.specs.List.{AllByRecursion, list_all, position, position_or_len}
use Rattle.std.specs.Str.{bytes_eq}
use Rattle.dip_names.specs.declared.faults.MapFault.{MapFault}
use Rattle.dip_names.specs.declared.names.Kind.{Kind}
use Rattle.dip_names.specs.declared.names.Kind.TheVariants.{Army, Fleet}
use Rattle.dip_names.specs.declared.names.Place.{Place}
use Rattle.dip_names.specs.declared.names.Terrain.{Terrain}
use Rattle.dip_names.specs.declared.names.Terrain.TheVariants.{Inland, Coast, Sea}
use Rattle.dip_names.specs.declared.names.Unit.{Unit as AUnit}
use Rattle.dip_names.specs.Forms.{is_code, is_coast_name}
use Rattle.dip_names.specs.Results.{◌>>=◌}
use Rattle.dip_map_file.specs.Drafts.{Draft, PowerDraft, ProvinceDraft, ShoreDraft, Site, UnitDraft}
use Rattle.dip_map_file.specs.Files.{draft_at, file_in, may_be_centre, or_no_toml}
use Rattle.dip_map_laws.specs.Spelling.{Spells}
use Rattle.dip_map_file.specs.Tables.{Members, parse_document}
use Rattle.dip_map_laws.proofs.FileLaws.{bind_ok}
use Rattle.dip_map_laws.proofs.SpellingLaws.{FitArmy, FitShores, IsBare, IsBareBy, IsCoastName, IsDraft, IsOnlyShore, IsPower, IsProvince, IsShore, IsSite, IsUnit, armies_bare, file_back, file_spelled}
use Rattle.dip_map_chart.specs.Charts.{Chart, IsMap, Province, Realm, Shore, has_named_shores, has_one_shore, is_centre, is_fleet_place, is_shaped, is_unit, may_stand, no_province, no_realm, no_shore, province, realm, shore}
use Rattle.dip_map_chart.proofs.Found.{test_at}
use Rattle.dip_map.proofs.BoardLaws.{centre_low}
use Rattle.dip_map_laws.proofs.CheckLaws.{no_fault}
use Rattle.dip_map_laws.specs.Spelled.{SpellsMap, StatesWhatItSpells, code_of, map_draft, power_draft, province_draft, shore_draft, site_by, site_of, unit_draft}
use Rattle.dip_map_text.specs.Stated.{chart_at, chart_of, coast_at, each, each_from, is_few, map_in, or_unknown, place_at, prov_at, province_at, realm_at, shore_at, unit_at, unit_of}
use Rattle.dip_map_laws.proofs.TellingLaws.{ChartRead, chart_read, looked_place, looked_up, of_draft, of_shore, parsed_file}

-- what was looked up for each of a list tells the list
each_spelled : {A B : Type 0} (f : A → Result B MapFault) (g : B → A) → ((x : A) (y : B) → f x ≡ Ok y → x ≡ g y) → (xs : List A) (ys : List B) → each f xs ≡ Ok ys → xs ≡ map g ys
each_spelled f g back [] ys h = let e : [] ≡ ys = cc in ap (λ us. map g us) e
each_spelled f g back (x ∷ xs) ys h =
    let (y, found, rest) = bind_ok (f x) (λ u. each f xs >>= λ more. Ok (u ∷ more)) ys h in
    let (more, others, all) = bind_ok (each f xs) (λ more. Ok (y ∷ more)) ys rest in
    let e : y ∷ more ≡ ys = cc in
    let here : x ≡ g y = back x y found in
    let behind : xs ≡ map g more = each_spelled f g back xs more others in
    (λ i. here i ∷ behind i) ∙ ap (λ us. map g us) e

shore_spelled : (d : Draft) (m : Chart) → ChartRead d m → (w : ShoreDraft) (s : Shore) → shore_at d w ≡ Ok s → w ≡ shore_draft m s
shore_spelled d m c w s h =
    let of = of_shore d w s h in
    let name : w.name ≡ s.name = of.name in
    let next : w.next ≡ map (site_of m) s.next = each_spelled (place_at d) (site_of m) (λ x a e. (looked_place d m c x a e).site) w.next s.next of.next in
    λ i. record { name = name i; next = next i }

codes_spelled : (d : Draft) (m : Chart) → ChartRead d m → (cs : List (List ℕ)) (ps : List ℕ) → each (prov_at d) cs ≡ Ok ps → cs ≡ map (code_of m) ps
codes_spelled d m c cs ps h = each_spelled (prov_at d) (code_of m) (λ code p e. sym (looked_up d m c code p e).1) cs ps h

province_spelled : (d : Draft) (m : Chart) → ChartRead d m → (w : ProvinceDraft) (r : Province) → province_at d w ≡ Ok r → w ≡ province_draft m r
province_spelled d m c w r h =
    let of = of_draft d w r h in
    let code : w.code ≡ r.code = of.code in
    let name : w.name ≡ r.name = of.name in
    let terrain : w.terrain ≡ r.terrain = of.terrain in
    let centre : w.centre ≡ r.centre = of.centre in
    let army : w.army ≡ map (code_of m) r.army = codes_spelled d m c w.army r.army of.army in
    let shores : w.shores ≡ map (shore_draft m) r.shores = each_spelled (shore_at d) (shore_draft m) (shore_spelled d m c) w.shores r.shores of.shores in
    λ i. record { code = code i; name = name i; terrain = terrain i; centre = centre i; army = army i; shores = shores i }

abbrev army_of : ℕ → ℕ → AUnit
army_of k p = record { power = k; kind = Army; place = record { prov = p; coast = 0 } }

abbrev fleet_of : ℕ → Place → AUnit
fleet_of k a = record { power = k; kind = Fleet; place = a }

unit_spelled_by : (d : Draft) (m : Chart) → ChartRead d m → (k : ℕ) (kind : Kind) (s : Site) (u : AUnit) → unit_of d k kind s ≡ Ok u → IsBareBy kind s → record { kind = kind; site = s } ≡ unit_draft m u
unit_spelled_by d m c k Army s u h bare =
    let (p, found, made) = bind_ok (prov_at d s.code) (λ p. Ok (army_of k p)) u h in
    let is : army_of k p ≡ u = cc in
    let code : s.code ≡ code_of m p = sym (looked_up d m c s.code p found).1 in
    let coast : s.coast ≡ [] = bare in
    (λ i. record { kind = Army; site = record { code = code i; coast = coast i } }) ∙ ap (unit_draft m) is
unit_spelled_by d m c k Fleet s u h bare =
    let (a, found, made) = bind_ok (place_at d s) (λ a. Ok (fleet_of k a)) u h in
    let is : fleet_of k a ≡ u = cc in
    let site : s ≡ site_of m a = (looked_place d m c s a found).site in
    (λ i. record { kind = Fleet; site = site i }) ∙ ap (unit_draft m) is

-- the units of a power
units_spelled : (d : Draft) (m : Chart) → ChartRead d m → (k : ℕ) (ws : List UnitDraft) (us : List AUnit) → each (unit_at d k) ws ≡ Ok us → AllByRecursion IsBare ws → ws ≡ map (unit_draft m) us
units_spelled d m c k [] us h bare = let e : [] ≡ us = cc in ap (map (unit_draft m)) e
units_spelled d m c k (w ∷ ws) us h bare =
    let (u, found, rest) = bind_ok (unit_at d k w) (λ u. each (unit_at d k) ws >>= λ more. Ok (u ∷ more)) us h in
    let (more, others, all) = bind_ok (each (unit_at d k) ws) (λ more. Ok (u ∷ more)) us rest in
    let e : u ∷ more ≡ us = cc in
    let first : w ≡ unit_draft m u = unit_spelled_by d m c k w.kind w.site u found bare.0 in
    let last : ws ≡ map (unit_draft m) more = units_spelled d m c k ws more others bare.1 in
    (λ i. first i ∷ last i) ∙ ap (map (unit_draft m)) e

-- powers that were looked up
power_spelled : (d : Draft) (m : Chart) → ChartRead d m → (k : ℕ) (w : PowerDraft) (r : Realm) → realm_at d k w ≡ Ok r → AllByRecursion IsBare w.units → w ≡ power_draft m r
unfolding realm_at
power_spelled d m c k w r h bare =
    let (homes, a, rest) = bind_ok (each (prov_at d) w.home) (λ home. each (unit_at d k) w.units >>= λ units. Ok (record { name = w.name; home = home; units = units })) r h in
    let (us, b, last) = bind_ok (each (unit_at d k) w.units) (λ units. Ok (record { name = w.name; home = homes; units = units })) r rest in
    let is : record { name = w.name; home = homes; units = us } ≡ r = cc in
    let home : w.home ≡ map (code_of m) homes = codes_spelled d m c w.home homes a in
    let units : w.units ≡ map (unit_draft m) us = units_spelled d m c k w.units us b bare in
    (λ i. record { name = w.name; home = home i; units = units i }) ∙ ap (power_draft m) is

powers_spelled : (d : Draft) (m : Chart) → ChartRead d m → (k : ℕ) (ws : List PowerDraft) (rs : List Realm) → each_from (realm_at d) k ws ≡ Ok rs → AllByRecursion (λ p. AllByRecursion IsBare p.units) ws → ws ≡ map (power_draft m) rs
powers_spelled d m c k [] rs h bare = let e : [] ≡ rs = cc in ap (map (power_draft m)) e
powers_spelled d m c k (w ∷ ws) rs h bare =
    let (r, found, rest) = bind_ok (realm_at d k w) (λ u. each_from (realm_at d) (k + 1) ws >>= λ more. Ok (u ∷ more)) rs h in
    let (more, others, all) = bind_ok (each_from (realm_at d) (k + 1) ws) (λ more. Ok (r ∷ more)) rs rest in
    let e : r ∷ more ≡ rs = cc in
    let first : w ≡ power_draft m r = power_spelled d m c k w r found bare.0 in
    let last : ws ≡ map (power_draft m) more = powers_spelled d m c (k + 1) ws more others bare.1 in
    (λ i. first i ∷ last i) ∙ ap (map (power_draft m)) e

-- the draft that a map was read from
chart_spelled : (d : Draft) (m : Chart) → ChartRead d m → AllByRecursion (λ p. AllByRecursion IsBare p.units) d.powers → d ≡ map_draft m
chart_spelled d m c bare =
    let name : d.name ≡ m.name = c.name in
    let powers : d.powers ≡ map (power_draft m) m.realms = powers_spelled d m c 0 d.powers m.realms c.realms bare in
    let provinces : d.provinces ≡ map (province_draft m) m.provinces = each_spelled (province_at d) (province_draft m) (province_spelled d m c) d.provinces m.provinces c.provinces in
    λ i. record { name = name i; powers = powers i; provinces = provinces i }

spelled : (text : List ℕ) (m : Chart) → map_in text ≡ Ok m → SpellsMap text m
unfolding map_in
spelled text m h =
    let (file, parsed, rest) = bind_ok (file_in text) (λ file. draft_at file >>= chart_of) m h in
    let (d, drafted, made) = bind_ok (draft_at file) chart_of m rest in
    let is = chart_spelled d m (chart_read d m made) (armies_bare file d drafted) in
    (file, parsed_file text file parsed, subst (λ (x : Draft). Spells file x) is (file_spelled file d drafted))

-- what is found in a list is found in another that tells the same of each
first_map : {A B : Type 0} (f : A → B) (p : B → Bool) (xs : List A) → position_or_len p (map f xs) ≡ position_or_len (λ x. p (f x)) xs
first_map f p [] = refl
first_map f p (x ∷ xs) = ap (λ n. cond (not (p (f x))) (1 + n) 0) (first_map f p xs)

position_map : {A B : Type 0} (f : A → B) (p : B → Bool) (xs : List A) → position p (map f xs) ≡ position (λ x. p (f x)) xs
position_map f p xs =
    ap (λ n. cond (nat_lt n (length (map f xs))) (Some n) None) (first_map f p xs)
    ∙ ap (λ l. cond (nat_lt (position_or_len (λ x. p (f x)) xs) l) (Some (position_or_len (λ x. p (f x)) xs)) None) (length-map xs f)

-- what holds of each of a list holds of each of its images
images : {A B : Type 0} (P : A → Type 0) (Q : B → Type 0) (f : A → B) → ((x : A) → P x → Q (f x)) → (xs : List A) → AllByRecursion P xs → AllByRecursion Q (map f xs)
images P Q f go [] h = tt
images P Q f go (x ∷ xs) h = (go x h.0, images P Q f go xs h.1)

from_test : {A : Type 0} (t : A → Bool) (xs : List A) → list_all t xs ≡ true → AllByRecursion (λ x. t x ≡ true) xs
from_test t [] h = tt
from_test t (x ∷ xs) h = let (here, more) = and_parts (t x) (list_all t xs) h in (here, from_test t xs more)

from_index : {A : Type 0} (P : A → Type 0) (xs : List A) (d : A) → ((k : ℕ) → k < length xs → P (get_or xs k d)) → AllByRecursion P xs
from_index P [] d h = tt
from_index P (x ∷ xs) d h = (h 0 (omega arith), from_index P xs d (λ k low. h (suc k) (omega (arith, low))))

-- what is looked up for the draft of each of a list
each_back : {A B : Type 0} (f : A → Result B MapFault) (g : B → A) (P : B → Type 0) → ((y : B) → P y → f (g y) ≡ Ok y) → (ys : List B) → AllByRecursion P ys → each f (map g ys) ≡ Ok ys
each_back f g P back [] h = refl
each_back f g P back (y ∷ ys) h =
    let here : f (g y) ≡ Ok y = back y h.0 in
    let behind : each f (map g ys) ≡ Ok ys = each_back f g P back ys h.1 in
    rw (here, behind) refl

-- what a map's lists name is of the map
record IsWithin (m : Chart) (r : Province) : Type 0 where
  pub army : AllByRecursion (λ q. q < length m.provinces) r.army
  pub shores : AllByRecursion (λ s. AllByRecursion (λ b. is_fleet_place m b ≡ true) s.next) r.shores

record IsRealmOf (m : Chart) (k : ℕ) (r : Realm) : Type 0 where
  pub home : AllByRecursion (λ p. p < length m.provinces) r.home
  pub units : AllByRecursion (λ u. is_unit m u ≡ true) r.units
  pub own : AllByRecursion (λ u. u.power ≡ k) r.units

within : (m : Chart) → IsMap m → (p : ℕ) → IsWithin m (province m p)
within m ok p = record {
  army = recursion_from_All (λ q. q < length m.provinces) (province m p).army (ok.army_within p);
  shores = from_index (λ (s : Shore). AllByRecursion (λ b. is_fleet_place m b ≡ true) s.next) (province m p).shores no_shore
      (λ k low. recursion_from_All (λ b. is_fleet_place m b ≡ true) (get_or (province m p).shores k no_shore).next (ok.fleet_within (record { prov = p; coast = k })));
}

identity : {A : Type 0} (P Q : A → Type 0) → ((x : A) → P x → Q x) → (xs : List A) → AllByRecursion P xs → AllByRecursion Q xs
identity P Q go [] h = tt
identity P Q go (x ∷ xs) h = (go x h.0, identity P Q go xs h.1)

realm_of : (m : Chart) → IsMap m → (r : ℕ) → r < length m.realms → IsRealmOf m r (realm m r)
realm_of m ok r low =
    let (named, rest) = and_parts _ (list_all (λ p. is_centre m p) (realm m r).home && list_all (λ u. is_unit m u) (realm m r).units) (ok.realms r low) in
    let (homes, units) = and_parts (list_all (λ p. is_centre m p) (realm m r).home) (list_all (λ u. is_unit m u) (realm m r).units) rest in
    record {
      home = identity (λ p. is_centre m p ≡ true) (λ p. p < length m.provinces) (centre_low m) (realm m r).home (from_test (λ p. is_centre m p) (realm m r).home homes);
      units = from_test (λ u. is_unit m u) (realm m r).units units;
      own = recursion_from_All (λ (u : AUnit). u.power ≡ r) (realm m r).units (ok.units_own r);
    }

-- the look-ups of a map's draft
prov_back : (m : Chart) → IsMap m → (p : ℕ) → p < length m.provinces → prov_at (map_draft m) (code_of m p) ≡ Ok p
unfolding prov_at
prov_back m ok p low = ap or_unknown (position_map (province_draft m) (λ w. bytes_eq w.code (code_of m p)) m.provinces ∙ ok.codes_found p low)

coast_back : (m : Chart) → IsMap m → (a : Place) → a.prov < length m.provinces → a.coast < length (province m a.prov).shores → coast_at (map_draft m) a.prov (shore m a).name ≡ Ok a.coast
unfolding coast_at
coast_back m ok a low there =
    let found : slice_get (map (province_draft m) m.provinces) a.prov ≡ Some (province_draft m (province m a.prov)) =
    slice_get-map (province_draft m) m.provinces a.prov ∙ ap (λ o. option_map (province_draft m) o) (slice_get-get_or m.provinces a.prov no_province low) in
    let name : List ℕ = (shore m a).name in
    ap (λ o. or_unknown (option_and_then (λ (l : ProvinceDraft). position (λ s. bytes_eq s.name (shore m a).name) l.shores) o)) found
    ∙ ap or_unknown (position_map (shore_draft m) (λ s. bytes_eq s.name (shore m a).name) (province m a.prov).shores ∙ ok.coasts_found a there)

place_back : (m : Chart) → IsMap m → (a : Place) → is_fleet_place m a ≡ true → place_at (map_draft m) (site_of m a) ≡ Ok a
unfolding place_at
place_back m ok a on =
    let (low, there) = and_parts (nat_lt a.prov (length m.provinces)) (nat_lt a.coast (length (province m a.prov).shores)) on in
    rw (prov_back m ok a.prov (ltb-true _ _ low), coast_back m ok a (ltb-true _ _ low) (ltb-true _ _ there)) refl

unit_back_by : (m : Chart) → IsMap m → (k : ℕ) (kind : Kind) (a : Place) → may_stand m kind a ≡ true → unit_of (map_draft m) k kind (site_by m kind a) ≡ Ok (record { power = k; kind = kind; place = a })
unit_back_by m ok k Army a on =
    let (low, rest) = and_parts (nat_lt a.prov (length m.provinces)) _ on in
    let first : a.coast ≡ 0 = eqb-true a.coast 0 (and_parts (a.coast == 0) _ rest).0 in
    let zero_is : 0 ≡ a.coast = sym first in
    rw (prov_back m ok a.prov (ltb-true _ _ low)) (ap (λ n. Ok (record { power = k; kind = Army; place = record { prov = a.prov; coast = n } })) zero_is)
unit_back_by m ok k Fleet a on = rw (place_back m ok a on) refl

unit_back : (m : Chart) → IsMap m → (k : ℕ) (u : AUnit) → (is_unit m u ≡ true) × (u.power ≡ k) → unit_at (map_draft m) k (unit_draft m u) ≡ Ok u
unit_back m ok k u h =
    let stands = (and_parts _ (may_stand m u.kind u.place) h.0).1 in
    let own : k ≡ u.power = sym h.1 in
    unit_back_by m ok k u.kind u.place stands ∙ ap (λ n. Ok (record { power = n; kind = u.kind; place = u.place })) own

shore_back : (m : Chart) → IsMap m → (s : Shore) → AllByRecursion (λ b. is_fleet_place m b ≡ true) s.next → shore_at (map_draft m) (shore_draft m s) ≡ Ok s
unfolding shore_at
shore_back m ok s on = rw (each_back (place_at (map_draft m)) (site_of m) (λ b. is_fleet_place m b ≡ true) (place_back m ok) s.next on) refl

province_back : (m : Chart) → IsMap m → (r : Province) → IsWithin m r → province_at (map_draft m) (province_draft m r) ≡ Ok r
unfolding province_at
province_back m ok r on =
    let army = each_back (prov_at (map_draft m)) (code_of m) (λ q. q < length m.provinces) (prov_back m ok) r.army on.army in
    let shores = each_back (shore_at (map_draft m)) (shore_draft m) (λ (s : Shore). AllByRecursion (λ b. is_fleet_place m b ≡ true) s.next) (shore_back m ok) r.shores on.shores in
    rw (army, shores) refl

both : {A : Type 0} (P Q : A → Type 0) (xs : List A) → AllByRecursion P xs → AllByRecursion Q xs → AllByRecursion (λ x. P x × Q x) xs
both P Q [] h k = tt
both P Q (x ∷ xs) h k = ((h.0, k.0), both P Q xs h.1 k.1)

realm_back : (m : Chart) → IsMap m → (k : ℕ) (r : Realm) → IsRealmOf m k r → realm_at (map_draft m) k (power_draft m r) ≡ Ok r
unfolding realm_at
realm_back m ok k r on =
    let home = each_back (prov_at (map_draft m)) (code_of m) (λ q. q < length m.provinces) (prov_back m ok) r.home on.home in
    let units = each_back (unit_at (map_draft m) k) (unit_draft m) (λ u. (is_unit m u ≡ true) × (u.power ≡ k)) (unit_back m ok k) r.units (both (λ u. is_unit m u ≡ true) (λ u. u.power ≡ k) r.units on.units on.own) in
    rw (home, units) refl

realms_back : (m : Chart) → IsMap m → (k : ℕ) (rs : List Realm) → ((i : ℕ) → i < length rs → IsRealmOf m (k + i) (get_or rs i no_realm)) → each_from (realm_at (map_draft m)) k (map (power_draft m) rs) ≡ Ok rs
realms_back m ok k [] on = refl
realms_back m ok k (r ∷ rs) on =
    let z : k + 0 ≡ k = omega arith in
    let here : realm_at (map_draft m) k (power_draft m r) ≡ Ok r = realm_back m ok k r (subst (λ n. IsRealmOf m n r) z (on 0 (omega arith))) in
    let behind : each_from (realm_at (map_draft m)) (k + 1) (map (power_draft m) rs) ≡ Ok rs = realms_back m ok (k + 1) rs (λ i low.
    let e : k + suc i ≡ (k + 1) + i = omega arith in
    subst (λ n. IsRealmOf m n (get_or rs i no_realm)) e (on (suc i) (omega (arith, low)))) in
    rw (here, behind) refl

-- a map's draft states it
chart_back : (m : Chart) → IsMap m → chart_of (map_draft m) ≡ Ok m
unfolding chart_at
chart_back m ok =
    let powers : length (map (power_draft m) m.realms) ≡ length m.realms = length-map m.realms (power_draft m) in
    let lands : length (map (province_draft m) m.provinces) ≡ length m.provinces = length-map m.provinces (province_draft m) in
    let few : is_few (map_draft m) ≡ true =
    and_from _ _ (and_from _ _ (le-leb 1 (length (map (power_draft m) m.realms)) (omega (arith, powers, ok.realms_least))) (le-leb (length (map (power_draft m) m.realms)) 7 (omega (arith, powers, ok.realms_most))))
    (and_from _ _ (le-leb 1 (length (map (province_draft m) m.provinces)) (omega (arith, lands, ok.provinces_least))) (le-leb (length (map (province_draft m) m.provinces)) 200 (omega (arith, lands, ok.provinces_most)))) in
    let realms : each_from (realm_at (map_draft m)) 0 (map (power_draft m) m.realms) ≡ Ok m.realms =
    realms_back m ok 0 m.realms (λ i low. let e : i ≡ 0 + i = sym (zero-add i) in subst (λ n. IsRealmOf m n (get_or m.realms i no_realm)) e (realm_of m ok i low)) in
    let provinces : each (province_at (map_draft m)) (map (province_draft m) m.provinces) ≡ Ok m.provinces =
    each_back (province_at (map_draft m)) (province_draft m) (IsWithin m) (province_back m ok) m.provinces (from_index (IsWithin m) m.provinces no_province (λ p low. within m ok p)) in
    rw (few, realms, provinces, no_fault m ok) refl

-- the forms of a map's draft
code_form : (m : Chart) → IsMap m → (p : ℕ) → p < length m.provinces → is_code (code_of m p) ≡ true
code_form m ok p low = (and_parts (is_code (province m p).code) _ (ok.provinces p low)).0

empty_is : {A : Type 0} (xs : List A) → (length xs == 0) ≡ true → xs ≡ []
empty_is [] h = refl
empty_is (x ∷ xs) h = let e : length (x ∷ xs) ≡ 0 = eqb-true (length (x ∷ xs)) 0 h in absurd (omega (arith, e))

-- the only one of a list
only_one : (ss : List Shore) → has_one_shore ss ≡ true → (s : Shore) × (ss ≡ s ∷ []) × (s.name ≡ [])
only_one [] h = absurd (false≢true h)
only_one (s ∷ []) h = let unnamed = (and_parts (length (s ∷ []) == 1) _ h).1 in (s, refl, empty_is s.name (and_parts (length s.name == 0) _ unnamed).0)
only_one (s ∷ t ∷ more) h = let e : length (s ∷ t ∷ more) ≡ 1 = eqb-true _ _ (and_parts (length (s ∷ t ∷ more) == 1) _ h).0 in absurd (omega (arith, e))

named_form : (name : List ℕ) → is_coast_name name ≡ true → IsCoastName name
named_form [] h = tt
named_form (b ∷ bs) h = h

unnamed_form : (name : List ℕ) → name ≡ [] → IsCoastName name
unnamed_form name e = subst IsCoastName (sym e) tt

name_form : (l : Terrain) (r : Province) (k : ℕ) → is_shaped l r ≡ true → k < length r.shores → IsCoastName (get_or r.shores k no_shore).name
name_form Inland r k h low = let e : length r.shores ≡ 0 = eqb-true _ _ h in absurd (omega (arith, e, low))
name_form Coast r k h low =
    elim (or_cases (has_one_shore r.shores) (has_named_shores r.shores) h) [
      | inl one ↦ sole one
      | inr more ↦
          let named = (and_parts (nat_le (length r.shores) 4) _ (and_parts (nat_le 2 (length r.shores)) _ more).1).1 in
          named_form _ (from_index_of k low named)
    ]
  where
    sole : has_one_shore r.shores ≡ true → IsCoastName (get_or r.shores k no_shore).name
    sole one =
        let (s, is, none) = only_one r.shores one in
        let first : k < 1 = subst (λ ss. k < length ss) is low in
        let zero_is : 0 ≡ k = omega (arith, first) in
        subst (λ n. IsCoastName (get_or r.shores n no_shore).name) zero_is (subst (λ ss. IsCoastName (get_or ss 0 no_shore).name) (sym is) (unnamed_form s.name none))

    from_index_of : (k : ℕ) → k < length r.shores → list_all (λ s. is_coast_name s.name) r.shores ≡ true → is_coast_name (get_or r.shores k no_shore).name ≡ true
    from_index_of k low all = test_at (λ s. is_coast_name s.name) r.shores k no_shore all low
name_form Sea r k h low =
    let one = (and_parts (has_one_shore r.shores) _ h).0 in
    let (s, is, none) = only_one r.shores one in
    let first : k < 1 = subst (λ ss. k < length ss) is low in
    let zero_is : 0 ≡ k = omega (arith, first) in
    subst (λ n. IsCoastName (get_or r.shores n no_shore).name) zero_is (subst (λ ss. IsCoastName (get_or ss 0 no_shore).name) (sym is) (unnamed_form s.name none))

shaped : (m : Chart) → IsMap m → (p : ℕ) → p < length m.provinces → is_shaped (province m p).terrain (province m p) ≡ true
shaped m ok p low = (and_parts _ _ (and_parts (is_code (province m p).code) _ (ok.provinces p low)).1).1

site_form : (m : Chart) → IsMap m → (a : Place) → is_fleet_place m a ≡ true → IsSite (site_of m a)
site_form m ok a on =
    let (low, there) = and_parts (nat_lt a.prov (length m.provinces)) (nat_lt a.coast (length (province m a.prov).shores)) on in
    let here = ltb-true _ _ low in
    record { code = code_form m ok a.prov here; coast = name_form (province m a.prov).terrain (province m a.prov) a.coast (shaped m ok a.prov here) (ltb-true _ _ there) }

unit_form_by : (m : Chart) → IsMap m → (k : Kind) (a : Place) → may_stand m k a ≡ true → IsSite (site_by m k a) × IsBareBy k (site_by m k a)
unit_form_by m ok Army a on = (record { code = code_form m ok a.prov (ltb-true _ _ (and_parts (nat_lt a.prov (length m.provinces)) _ on).0); coast = tt }, refl)
unit_form_by m ok Fleet a on = (site_form m ok a on, tt)

unit_form : (m : Chart) → IsMap m → (u : AUnit) → is_unit m u ≡ true → IsUnit (unit_draft m u)
unit_form m ok u on = let (site, bare) = unit_form_by m ok u.kind u.place (and_parts _ (may_stand m u.kind u.place) on).1 in record { site = site; bare = bare }

next_form : (m : Chart) → IsMap m → (s : Shore) → AllByRecursion (λ b. is_fleet_place m b ≡ true) s.next → AllByRecursion IsSite (map (site_of m) s.next)
next_form m ok s on = images (λ b. is_fleet_place m b ≡ true) IsSite (site_of m) (site_form m ok) s.next on

only_form : (m : Chart) → IsMap m → (ss : List Shore) → AllByRecursion (λ s. AllByRecursion (λ b. is_fleet_place m b ≡ true) s.next) ss → has_one_shore ss ≡ true → IsOnlyShore (map (shore_draft m) ss)
only_form m ok ss on one =
    let (s, is, none) = only_one ss one in
    let next = (subst (λ xs. AllByRecursion (λ (s : Shore). AllByRecursion (λ b. is_fleet_place m b ≡ true) s.next) xs) is on).0 in
    (map (site_of m) s.next, ap (map (shore_draft m)) is ∙ ap (λ name. record { name = name; next = map (site_of m) s.next } ∷ []) none, next_form m ok s next)

shores_form : (m : Chart) → IsMap m → (l : Terrain) (r : Province) → is_shaped l r ≡ true → AllByRecursion (λ s. AllByRecursion (λ b. is_fleet_place m b ≡ true) s.next) r.shores → FitShores l (map (shore_draft m) r.shores)
shores_form m ok Inland r h on = ap (map (shore_draft m)) (empty_is r.shores h)
shores_form m ok Coast r h on =
    elim (or_cases (has_one_shore r.shores) (has_named_shores r.shores) h) [
      | inl one ↦ inl (only_form m ok r.shores on one)
      | inr more ↦
          let (two, rest) = and_parts (nat_le 2 (length r.shores)) _ more in
          let (four, named) = and_parts (nat_le (length r.shores) 4) _ rest in
          let count : length r.shores ≡ length (map (shore_draft m) r.shores) = sym (length-map r.shores (shore_draft m)) in
          inr (record {
            few = subst (λ n. (nat_le 2 n && nat_le n 4) ≡ true) count (and_from _ _ two four);
            each = images (λ (s : Shore). (is_coast_name s.name ≡ true) × AllByRecursion (λ b. is_fleet_place m b ≡ true) s.next) IsShore (shore_draft m)
                (λ s both_of. record { name = both_of.0; next = next_form m ok s both_of.1 }) r.shores
                (both (λ (s : Shore). is_coast_name s.name ≡ true) (λ (s : Shore). AllByRecursion (λ b. is_fleet_place m b ≡ true) s.next) r.shores (from_test (λ s. is_coast_name s.name) r.shores named) on);
          })
    ]
shores_form m ok Sea r h on = only_form m ok r.shores on (and_parts (has_one_shore r.shores) _ h).0

army_form : (m : Chart) (l : Terrain) (r : Province) → is_shaped l r ≡ true → FitArmy l (map (code_of m) r.army)
army_form m Inland r h = tt
army_form m Coast r h = tt
army_form m Sea r h = ap (map (code_of m)) (empty_is r.army (and_parts (length r.army == 0) _ (and_parts (has_one_shore r.shores) _ h).1).0)

or_right : (b : Bool) → (b || true) ≡ true
or_right true = refl
or_right false = refl

centre_form : (l : Terrain) (r : Province) → is_shaped l r ≡ true → (not r.centre || may_be_centre l) ≡ true
centre_form Inland r h = or_right (not r.centre)
centre_form Coast r h = or_right (not r.centre)
centre_form Sea r h = ap (λ b. b || false) (and_parts (length r.army == 0) (not r.centre) (and_parts (has_one_shore r.shores) _ h).1).1

province_form : (m : Chart) → IsMap m → (p : ℕ) → p < length m.provinces → IsProvince (province_draft m (province m p))
province_form m ok p low =
    let r : Province = province m p in
    let (code, rest) = and_parts (is_code (province m p).code) _ (ok.provinces p low) in
    let (name, shape) = and_parts _ (is_shaped (province m p).terrain (province m p)) rest in
    let on = within m ok p in
    record {
      code = code;
      name = name;
      centre = centre_form (province m p).terrain (province m p) shape;
      army = images (λ q. q < length m.provinces) (λ c. is_code c ≡ true) (code_of m) (code_form m ok) (province m p).army on.army;
      army_fits = army_form m (province m p).terrain (province m p) shape;
      shores = shores_form m ok (province m p).terrain (province m p) shape on.shores;
    }

power_form : (m : Chart) → IsMap m → (r : ℕ) → r < length m.realms → IsPower (power_draft m (realm m r))
power_form m ok r low =
    let named = (and_parts _ (list_all (λ p. is_centre m p) (realm m r).home && list_all (λ u. is_unit m u) (realm m r).units) (ok.realms r low)).0 in
    let on = realm_of m ok r low in
    record {
      name = named;
      home = images (λ q. q < length m.provinces) (λ c. is_code c ≡ true) (code_of m) (code_form m ok) (realm m r).home on.home;
      units = images (λ u. is_unit m u ≡ true) IsUnit (unit_draft m) (unit_form m ok) (realm m r).units on.units;
    }

forms_at : {A B : Type 0} (P : B → Type 0) (f : A → B) (xs : List A) (d : A) → ((k : ℕ) → k < length xs → P (f (get_or xs k d))) → AllByRecursion P (map f xs)
forms_at P f [] d h = tt
forms_at P f (x ∷ xs) d h = (h 0 (omega arith), forms_at P f xs d (λ k low. h (suc k) (omega (arith, low))))

draft_form : (m : Chart) → IsMap m → IsDraft (map_draft m)
draft_form m ok = record {
  powers = forms_at IsPower (power_draft m) m.realms no_realm (power_form m ok);
  provinces = forms_at IsProvince (province_draft m) m.provinces no_province (province_form m ok);
}

file_found : (text : List ℕ) (file : Members) → parse_document text ≡ Some file → file_in text ≡ Ok file
unfolding file_in
file_found text file h = ap or_no_toml h

stated : (text : List ℕ) (m : Chart) → IsMap m → SpellsMap text m → map_in text ≡ Ok m
unfolding map_in
stated text m ok spells =
    let (file, parsed, is) = spells in
    rw (file_found text file parsed, file_back file (map_draft m) is (draft_form m ok), chart_back m ok) refl

-- both ways: what a text states it spells, and what it spells it states
pub states_what_it_spells : StatesWhatItSpells
states_what_it_spells text m ok = (spelled text m, stated text m ok)
