-- A file that was read spells what was read, and what a file spells is read.
use Rattle.std.proofs.Common.{◌≡◌, ◌⊎◌, ◌==◌, ◌++◌, ◌&&◌, ◌||◌, ℕ, not, nat_le, length, take, drop, map, Bool, true, false, List, [], ◌∷◌, codes, refl, sym, ◌∙◌, ap, subst, inl, inr, arith, cond, Option, Some, None, Result, Ok, Err}
use Rattle.std.proofs.lemmas.Bool.{and_from, and_parts, cases_Bool, eqb-true, le-leb, false≢true}
use Rattle.std.proofs.lemmas.List.{take_at, drop_at, length-append}
use Rattle.std.specs.List.{AllByRecursion}
use Rattle.toml.specs.Data.{Data, string, array, table, Items, no_items, item, Members, no_members, member, get_member, as_array, as_table, as_str, as_bool}
use Rattle.dip_names.specs.declared.faults.MapFault.{MapFault}
use Rattle.dip_names.specs.declared.faults.MapFault.TheVariants.{WrongField}
use Rattle.dip_names.specs.declared.names.Terrain.{Terrain}
use Rattle.dip_names.specs.declared.names.Terrain.TheVariants.{Inland, Coast, Sea}
use Rattle.dip_names.specs.declared.names.Kind.{Kind}
use Rattle.dip_names.specs.declared.names.Kind.TheVariants.{Army, Fleet}
use Rattle.dip_names.specs.Forms.{is_coast_name, is_code, is_full_name, is_power_name}
use Rattle.dip_names.specs.Results.{◌>>=◌}
use Rattle.dip_map_file.specs.Drafts.{Site, ShoreDraft, UnitDraft, ProvinceDraft, PowerDraft, Draft}
use Rattle.dip_map_file.specs.Fields.{or_wrong, each_item, each_member, field_at, text_at, table_at, flag_of, keys_are_among}
use Rattle.dip_map_file.specs.Files.{coast_in, either_shores, only_shore_at, shore_at, shores_in, site_at, site_in, sites_at, army_at, code_at, codes_at, draft_at, is_sound, keys_of, may_be_centre, terrain_in, name_at, power_at, province_at, shores_at, unit_at, unit_by, unit_in, units_at}
use Rattle.dip_map_file.specs.Tables.{Says, behind_slash, terrain_word}
use Rattle.dip_map_laws.specs.Spelling.{AreTables, IsOption, Spells, SpellsPower, SpellsProvince, army_field, coast_lists, coasts_field, fleet_field, list_of, place_text, strings, unit_text}
use Rattle.dip_map_laws.proofs.FileLaws.{bind_ok, code_is, field_is, file_read, if_ok, if_read, is_array, is_boolean, is_table, is_string, no_field, or_wrong_ok, power_read, province_read, shore_read, site_is, site_spelled, terrain_is}

-- the items are the texts that were read, in their order
items_spelled : {A : Type 0} (f : Data → Result A MapFault) (spell : A → List ℕ) → ((v : Data) (x : A) → f v ≡ Ok x → v ≡ string (spell x)) → (ds : Items) (xs : List A) → each_item f ds ≡ Ok xs
    → ds ≡ strings (map spell xs)
items_spelled f spell spelled no_items xs h = let e : [] ≡ xs = cc in ap (λ ys. strings (map spell ys)) e
items_spelled f spell spelled (item d ds) xs h =
    let (y, first, rest) = bind_ok (f d) (λ y. each_item f ds >>= λ more. Ok (y ∷ more)) xs h in
    let (ys, others, all) = bind_ok (each_item f ds) (λ more. Ok (y ∷ more)) xs rest in
    let e : y ∷ ys ≡ xs = cc in
    let here : d ≡ string (spell y) = spelled d y first in
    let behind : ds ≡ strings (map spell ys) = items_spelled f spell spelled ds ys others in
    (λ i. item (here i) (behind i)) ∙ ap (λ zs. strings (map spell zs)) e

list_spelled : {A : Type 0} (f : Data → Result A MapFault) (spell : A → List ℕ) → ((v : Data) (x : A) → f v ≡ Ok x → v ≡ string (spell x)) → (v : Data) (xs : List A)
    → (or_wrong (as_array v) >>= λ items. each_item f items) ≡ Ok xs → v ≡ list_of (map spell xs)
list_spelled f spell spelled v xs h =
    let (ds, array_read, read) = bind_ok (or_wrong (as_array v)) (λ items. each_item f items) xs h in
    is_array v ds (or_wrong_ok (as_array v) ds array_read) ∙ ap (λ x. array x) (items_spelled f spell spelled ds xs read)

same_list : (xs : List (List ℕ)) → map (λ x. x) xs ≡ xs
same_list [] = refl
same_list (x ∷ xs) = ap (λ ys. x ∷ ys) (same_list xs)

codes_spelled : (t : Members) (key : List ℕ) (cs : List (List ℕ)) → (field_at key t >>= codes_at) ≡ Ok cs → get_member key t ≡ Some (list_of cs)
unfolding codes_at
codes_spelled t key cs h =
    let (v, field, list) = bind_ok (field_at key t) codes_at cs h in
    field_is key t v field ∙ ap (λ x. Some x) (list_spelled code_at (λ x. x) code_is v cs list ∙ ap list_of (same_list cs))

sites_spelled : (v : Data) (ss : List Site) → sites_at v ≡ Ok ss → v ≡ list_of (map place_text ss)
unfolding sites_at
sites_spelled v ss h = list_spelled site_at place_text site_is v ss h

-- an army's place tells no coast
abbrev pub IsBareBy : Kind → Site → Type 0
IsBareBy Army s = s.coast ≡ []
IsBareBy Fleet s = Unit {0}

abbrev pub IsBare : UnitDraft → Type 0
IsBare u = IsBareBy u.kind u.site

empty_is : (xs : List ℕ) → (length xs == 0) ≡ true → xs ≡ []
empty_is [] h = refl
empty_is (x ∷ xs) h = let e : length (x ∷ xs) ≡ 0 = eqb-true (length (x ∷ xs)) 0 h in absurd (omega (arith, e))

abbrev army_at_site : Site → UnitDraft
army_at_site s = record { kind = Army; site = s }

abbrev fleet_at_site : Site → UnitDraft
fleet_at_site s = record { kind = Fleet; site = s }

unit_read : (text : List ℕ) (u : UnitDraft) → unit_in text ≡ Ok u → (text ≡ unit_text u) × IsBare u
unit_read [] u h = absurd (cc)
unit_read (b ∷ []) u h = absurd (cc)
unit_read (b ∷ space ∷ place) u h =
    let (blank, read) = if_read (space == 32) (site_in place >>= unit_by b) u h in
    let (site, sited, made) = bind_ok (site_in place) (unit_by b) u read in
    let at : place ≡ place_text site = (site_spelled place site sited).spelled in
    let gap : space ≡ 32 = eqb-true space 32 blank in
    elim (cases_Bool (b == 70)) [
      | inl fleet ↦
          let e : Ok (fleet_at_site site) ≡ Ok u = rw fleet at made in
          let is : fleet_at_site site ≡ u = cc in
          let letter : b ≡ 70 = eqb-true b 70 fleet in
          ((λ i. letter i ∷ gap i ∷ at i) ∙ ap unit_text is, subst IsBare is tt)
      | inr other ↦
          let e : cond ((b == 65) && (length site.coast == 0)) (Ok (army_at_site site)) (Err WrongField) ≡ Ok u = rw other at made in
          let (test, is) = if_ok ((b == 65) && (length site.coast == 0)) (army_at_site site) u e in
          let (army, none) = and_parts (b == 65) (length site.coast == 0) test in
          let letter : b ≡ 65 = eqb-true b 65 army in
          ((λ i. letter i ∷ gap i ∷ at i) ∙ ap unit_text is, subst IsBare is (empty_is site.coast none))
    ]

unit_spelled : (v : Data) (u : UnitDraft) → unit_at v ≡ Ok u → (v ≡ string (unit_text u)) × IsBare u
unfolding unit_at
unit_spelled v u h =
    let (text, read, rest) = bind_ok (or_wrong (as_str v)) unit_in u h in
    let (spelled, bare) = unit_read text u rest in
    (is_string v text (or_wrong_ok (as_str v) text read) ∙ ap (λ x. string x) spelled, bare)

items_bare : (ds : Items) (us : List UnitDraft) → each_item unit_at ds ≡ Ok us → AllByRecursion IsBare us
items_bare no_items us h = let e : [] ≡ us = cc in subst (λ xs. AllByRecursion IsBare xs) e tt
items_bare (item d ds) us h =
    let (y, first, rest) = bind_ok (unit_at d) (λ y. each_item unit_at ds >>= λ more. Ok (y ∷ more)) us h in
    let (ys, others, all) = bind_ok (each_item unit_at ds) (λ more. Ok (y ∷ more)) us rest in
    let e : y ∷ ys ≡ us = cc in
    subst (λ xs. AllByRecursion IsBare xs) e ((unit_spelled d y first).1, items_bare ds ys others)

units_spelled : (t : Members) (key : List ℕ) (us : List UnitDraft) → (field_at key t >>= units_at) ≡ Ok us → (get_member key t ≡ Some (list_of (map unit_text us))) × AllByRecursion IsBare us
unfolding units_at
units_spelled t key us h =
    let (v, field, list) = bind_ok (field_at key t) units_at us h in
    let (ds, array_read, read) = bind_ok (or_wrong (as_array v)) (λ items. each_item unit_at items) us list in
    (field_is key t v field ∙ ap (λ x. Some x) (list_spelled unit_at unit_text (λ x u e. (unit_spelled x u e).0) v us list), items_bare ds us read)

-- the coasts of a province
coasts_spelled : (ms : Members) (shores : List ShoreDraft) → each_member shore_at ms ≡ Ok shores → ms ≡ coast_lists shores
coasts_spelled no_members shores h = let e : [] ≡ shores = cc in ap coast_lists e
coasts_spelled (member key v ms) shores h =
    let (s, first, rest) = bind_ok (shore_at key v) (λ s. each_member shore_at ms >>= λ more. Ok (s ∷ more)) shores h in
    let (ss, others, all) = bind_ok (each_member shore_at ms) (λ more. Ok (s ∷ more)) shores rest in
    let e : s ∷ ss ≡ shores = cc in
    let made = shore_read key v s first in
    let named : key ≡ s.name = sym made.name_same in
    let is : v ≡ list_of (map place_text s.next) = sites_spelled v s.next made.next in
    let behind : ms ≡ coast_lists ss = coasts_spelled ms ss others in
    (λ i. member (named i) (is i) (behind i)) ∙ ap coast_lists e

only_spelled : (v : Data) (shores : List ShoreDraft) → only_shore_at v ≡ Ok shores → (Some v ≡ fleet_field shores) × (None ≡ coasts_field shores)
unfolding only_shore_at
only_spelled v shores h =
    let (next, read, made) = bind_ok (sites_at v) (λ next. Ok (record { name = []; next = next } ∷ [])) shores h in
    let is : record { name = []; next = next } ∷ [] ≡ shores = cc in
    (ap (λ x. Some x) (sites_spelled v next read) ∙ ap fleet_field is, ap coasts_field is)

named_spelled : (v : Data) (shores : List ShoreDraft) → shores_in v ≡ Ok shores → (None ≡ fleet_field shores) × (Some v ≡ coasts_field shores)
unfolding shores_in
named_spelled v shores h =
    let (coasts, tab, rest) = bind_ok (or_wrong (as_table v)) (λ coasts. each_member shore_at coasts >>= λ found. cond (nat_le 2 (length found) && nat_le (length found) 4) (Ok found) (Err WrongField)) shores h in
    let (found, each, kept) = bind_ok (each_member shore_at coasts) (λ found. cond (nat_le 2 (length found) && nat_le (length found) 4) (Ok found) (Err WrongField)) shores rest in
    let (few, same) = if_ok (nat_le 2 (length found) && nat_le (length found) 4) found shores kept in
    let is : v ≡ table (coast_lists found) = is_table v coasts (or_wrong_ok (as_table v) coasts tab) ∙ ap (λ x. table x) (coasts_spelled coasts found each) in
    subst (λ ss. (None ≡ fleet_field ss) × (Some v ≡ coasts_field ss)) same (two found (and_parts (nat_le 2 (length found)) _ few).0 is)
  where
    two : (ss : List ShoreDraft) → nat_le 2 (length ss) ≡ true → v ≡ table (coast_lists ss) → (None ≡ fleet_field ss) × (Some v ≡ coasts_field ss)
    two [] h is = absurd (false≢true h)
    two (s ∷ []) h is = absurd (false≢true h)
    two (s ∷ t ∷ more) h is = (refl, ap (λ x. Some x) is)

record ShoresSpelled (t : Members) (shores : List ShoreDraft) : Type 0 where
  pub fleet : get_member (codes "fleet") t ≡ fleet_field shores
  pub coasts : get_member (codes "coasts") t ≡ coasts_field shores

shores_spelled : (land : Terrain) (t : Members) (shores : List ShoreDraft) → shores_at land t ≡ Ok shores → keys_are_among (keys_of land) t ≡ true → ShoresSpelled t shores
shores_spelled Inland t shores h keys =
    let e : [] ≡ shores = cc in
    record { fleet = no_field (keys_of Inland) t (codes "fleet") keys refl ∙ ap fleet_field e; coasts = no_field (keys_of Inland) t (codes "coasts") keys refl ∙ ap coasts_field e }
shores_spelled Sea t shores h keys =
    let (v, field, read) = bind_ok (field_at (codes "fleet") t) only_shore_at shores h in
    let only = only_spelled v shores read in
    record { fleet = field_is (codes "fleet") t v field ∙ only.0; coasts = no_field (keys_of Sea) t (codes "coasts") keys refl ∙ only.1 }
shores_spelled Coast t shores h keys = either (get_member (codes "fleet") t) (get_member (codes "coasts") t) refl refl h
  where
    either : (fleet coasts : Option Data) → get_member (codes "fleet") t ≡ fleet → get_member (codes "coasts") t ≡ coasts → either_shores fleet coasts ≡ Ok shores → ShoresSpelled t shores
    either (Some f) None is_fleet no_coasts read = let only = only_spelled f shores read in record { fleet = is_fleet ∙ only.0; coasts = no_coasts ∙ only.1 }
    either None (Some c) no_fleet is_coasts read = let named = named_spelled c shores read in record { fleet = no_fleet ∙ named.0; coasts = is_coasts ∙ named.1 }
    either None None no_fleet no_coasts read = absurd (cc)
    either (Some f) (Some c) is_fleet is_coasts read = absurd (cc)

army_spelled : (land : Terrain) (t : Members) (cs : List (List ℕ)) → army_at land t ≡ Ok cs → keys_are_among (keys_of land) t ≡ true → get_member (codes "army") t ≡ army_field land cs
army_spelled Inland t cs h keys = codes_spelled t (codes "army") cs h
army_spelled Coast t cs h keys = codes_spelled t (codes "army") cs h
army_spelled Sea t cs h keys = no_field (keys_of Sea) t (codes "army") keys refl

option_spelled : (o : Option Data) (b : Bool) → flag_of o ≡ Ok b → IsOption o b
option_spelled None b h = let e : false ≡ b = cc in sym e
option_spelled (Some v) b h = is_boolean v b (or_wrong_ok (as_bool v) b h)

-- a member that is a table, and what it spells
abbrev IsTableOf : {A : Type 0} → (A → List ℕ) → (Members → A → Type 0) → List ℕ → Data → A → Type 0
IsTableOf name Spelled key value x = (key ≡ name x) × (t : Members) × (value ≡ table t) × Spelled t x

province_spelled : (code : List ℕ) (v : Data) (w : ProvinceDraft) → province_at code v ≡ Ok w → IsTableOf (λ (p : ProvinceDraft). p.code) SpellsProvince code v w
province_spelled code v w h =
    let made = province_read code v w h in
    let read = made.read in
    let keys = (and_parts (keys_are_among (keys_of w.terrain) made.fields) _ (and_parts (is_code w.code) _ read.sound).1).0 in
    let shores = shores_spelled w.terrain made.fields w.shores read.shores keys in (
      sym made.code_same,
      made.fields,
      made.is,
      record {
        name = read.name;
        kind = subst (λ x. Says made.fields (codes "kind") x) (terrain_is read.word w.terrain read.terrain) read.kind;
        centre = option_spelled (get_member (codes "centre") made.fields) w.centre read.flag;
        army = army_spelled w.terrain made.fields w.army read.army_list keys;
        fleet = shores.fleet;
        coasts = shores.coasts;
        keys = keys;
      },
    )

power_spelled : (name : List ℕ) (v : Data) (w : PowerDraft) → power_at name v ≡ Ok w → IsTableOf (λ (p : PowerDraft). p.name) SpellsPower name v w
power_spelled name v w h =
    let made = power_read name v w h in (
      sym made.name_same,
      made.fields,
      made.is,
      record {
        home = codes_spelled made.fields (codes "home") w.home made.read.home_list;
        units = (units_spelled made.fields (codes "units") w.units made.read.units_list).0;
        keys = made.read.keys;
      },
    )

tables_spelled : {A : Type 0} (f : List ℕ → Data → Result A MapFault) (name : A → List ℕ) (Spelled : Members → A → Type 0) → ((key : List ℕ) (v : Data) (x : A) → f key v ≡ Ok x → IsTableOf name Spelled key v x)
    → (ms : Members) (xs : List A) → each_member f ms ≡ Ok xs → AreTables name Spelled ms xs
tables_spelled f name Spelled spelled no_members xs h = let e : [] ≡ xs = cc in subst (λ ys. AreTables name Spelled no_members ys) e tt
tables_spelled f name Spelled spelled (member key d ms) xs h =
    let (y, first, rest) = bind_ok (f key d) (λ y. each_member f ms >>= λ more. Ok (y ∷ more)) xs h in
    let (ys, others, all) = bind_ok (each_member f ms) (λ more. Ok (y ∷ more)) xs rest in
    let e : y ∷ ys ≡ xs = cc in
    subst (λ zs. AreTables name Spelled (member key d ms) zs) e (spelled key d y first, tables_spelled f name Spelled spelled ms ys others)

-- a file that was read spells what was read of it
pub file_spelled : (file : Members) (d : Draft) → draft_at file ≡ Ok d → Spells file d
file_spelled file d h =
    let f = file_read file d h in
    record {
      name = f.name;
      powers = (f.realms, f.has_realms, tables_spelled power_at (λ (p : PowerDraft). p.name) SpellsPower power_spelled f.realms d.powers f.powers);
      provinces = (f.lands, f.has_lands, tables_spelled province_at (λ (p : ProvinceDraft). p.code) SpellsProvince province_spelled f.lands d.provinces f.provinces);
      keys = f.keys;
    }

powers_bare : (ms : Members) (ps : List PowerDraft) → each_member power_at ms ≡ Ok ps → AllByRecursion (λ p. AllByRecursion IsBare p.units) ps
powers_bare no_members ps h = let e : [] ≡ ps = cc in subst (λ xs. AllByRecursion (λ p. AllByRecursion IsBare p.units) xs) e tt
powers_bare (member key d ms) ps h =
    let (y, first, rest) = bind_ok (power_at key d) (λ y. each_member power_at ms >>= λ more. Ok (y ∷ more)) ps h in
    let (ys, others, all) = bind_ok (each_member power_at ms) (λ more. Ok (y ∷ more)) ps rest in
    let e : y ∷ ys ≡ ps = cc in
    let made = power_read key d y first in
    subst (λ xs. AllByRecursion (λ p. AllByRecursion IsBare p.units) xs) e ((units_spelled made.fields (codes "units") y.units made.read.units_list).1, powers_bare ms ys others)

-- no army's place of what was read tells a coast
pub armies_bare : (file : Members) (d : Draft) → draft_at file ≡ Ok d → AllByRecursion (λ p. AllByRecursion IsBare p.units) d.powers
armies_bare file d h = let f = file_read file d h in powers_bare f.realms d.powers f.powers

-- what is written so is read
abbrev pub IsCoastName : List ℕ → Type 0
IsCoastName [] = Unit {0}
IsCoastName (b ∷ name) = is_coast_name (b ∷ name) ≡ true

-- a place, a unit, a coast, a province and a power of the forms that they have to be written in
pub record IsSite (s : Site) : Type 0 where
  pub code : is_code s.code ≡ true
  pub coast : IsCoastName s.coast

pub record IsUnit (u : UnitDraft) : Type 0 where
  pub site : IsSite u.site
  pub bare : IsBare u

pub record IsShore (s : ShoreDraft) : Type 0 where
  pub name : is_coast_name s.name ≡ true
  pub next : AllByRecursion IsSite s.next

abbrev pub IsOnlyShore : List ShoreDraft → Type 0
IsOnlyShore ss = (next : List Site) × (ss ≡ record { name = []; next = next } ∷ []) × AllByRecursion IsSite next

pub record AreShores (ss : List ShoreDraft) : Type 0 where
  pub few : (nat_le 2 (length ss) && nat_le (length ss) 4) ≡ true
  pub each : AllByRecursion IsShore ss

abbrev pub FitShores : Terrain → List ShoreDraft → Type 0
FitShores Inland ss = ss ≡ []
FitShores Coast ss = IsOnlyShore ss ⊎ AreShores ss
FitShores Sea ss = IsOnlyShore ss

abbrev pub FitArmy : Terrain → List (List ℕ) → Type 0
FitArmy Inland cs = Unit {0}
FitArmy Coast cs = Unit {0}
FitArmy Sea cs = cs ≡ []

pub record IsProvince (p : ProvinceDraft) : Type 0 where
  pub code : is_code p.code ≡ true
  pub name : is_full_name p.name ≡ true
  pub centre : (not p.centre || may_be_centre p.terrain) ≡ true
  pub army : AllByRecursion (λ c. is_code c ≡ true) p.army
  pub army_fits : FitArmy p.terrain p.army
  pub shores : FitShores p.terrain p.shores

pub record IsPower (p : PowerDraft) : Type 0 where
  pub name : is_power_name p.name ≡ true
  pub home : AllByRecursion (λ c. is_code c ≡ true) p.home
  pub units : AllByRecursion IsUnit p.units

pub record IsDraft (d : Draft) : Type 0 where
  pub powers : AllByRecursion IsPower d.powers
  pub provinces : AllByRecursion IsProvince d.provinces

items_back : {A : Type 0} (f : Data → Result A MapFault) (spell : A → List ℕ) (Fits : A → Type 0) → ((x : A) → Fits x → f (string (spell x)) ≡ Ok x) → (xs : List A) → AllByRecursion Fits xs
    → each_item f (strings (map spell xs)) ≡ Ok xs
items_back f spell Fits back [] fit = refl
items_back f spell Fits back (x ∷ xs) fit =
    let here : f (string (spell x)) ≡ Ok x = back x fit.0 in
    let behind : each_item f (strings (map spell xs)) ≡ Ok xs = items_back f spell Fits back xs fit.1 in
    rw (here, behind) refl

code_back : (c : List ℕ) → is_code c ≡ true → code_at (string c) ≡ Ok c
unfolding code_at
code_back c ok = rw ok refl

coast_back : (c : List ℕ) → IsCoastName c → coast_in (behind_slash c) ≡ Ok c
coast_back [] ok = refl
coast_back (b ∷ name) ok = rw ok refl

site_back : (s : Site) → IsSite s → site_in (place_text s) ≡ Ok s
unfolding site_in
site_back s ok =
    let three : length s.code ≡ 3 = eqb-true (length s.code) 3 (and_parts (length s.code == 3) _ ok.code).0 in
    let front : take 3 (s.code ++ behind_slash s.coast) ≡ s.code = take_at s.code (behind_slash s.coast) 3 three in
    let end : drop 3 (s.code ++ behind_slash s.coast) ≡ behind_slash s.coast = drop_at s.code (behind_slash s.coast) 3 three in
    let long : nat_le 3 (length (s.code ++ behind_slash s.coast)) ≡ true = le-leb 3 (length (s.code ++ behind_slash s.coast)) (omega (arith, three, length-append s.code (behind_slash s.coast))) in
    rw (long, front, end, ok.code, coast_back s.coast ok.coast) refl

site_at_back : (s : Site) → IsSite s → site_at (string (place_text s)) ≡ Ok s
unfolding site_at
site_at_back s ok = site_back s ok

unit_by_back : (k : Kind) (s : Site) → IsSite s → IsBareBy k s → unit_in (unit_text (record { kind = k; site = s })) ≡ Ok (record { kind = k; site = s })
unit_by_back Army s ok bare =
    let none : (length s.coast == 0) ≡ true = ap (λ c. length c == 0) bare in
    rw (site_back s ok, none) refl
unit_by_back Fleet s ok bare = rw (site_back s ok) refl

unit_back : (u : UnitDraft) → IsUnit u → unit_at (string (unit_text u)) ≡ Ok u
unfolding unit_at
unit_back u ok = unit_by_back u.kind u.site ok.site ok.bare

codes_back : (cs : List (List ℕ)) → AllByRecursion (λ c. is_code c ≡ true) cs → codes_at (list_of cs) ≡ Ok cs
unfolding codes_at
codes_back cs fit = ap (λ xs. each_item code_at (strings xs)) (sym (same_list cs)) ∙ items_back code_at (λ x. x) (λ c. is_code c ≡ true) code_back cs fit

sites_back : (ss : List Site) → AllByRecursion IsSite ss → sites_at (list_of (map place_text ss)) ≡ Ok ss
unfolding sites_at
sites_back ss fit = items_back site_at place_text IsSite site_at_back ss fit

units_back : (us : List UnitDraft) → AllByRecursion IsUnit us → units_at (list_of (map unit_text us)) ≡ Ok us
unfolding units_at
units_back us fit = items_back unit_at unit_text IsUnit unit_back us fit

-- a field that is there
field_back : (key : List ℕ) (t : Members) (v : Data) → get_member key t ≡ Some v → field_at key t ≡ Ok v
unfolding field_at
field_back key t v h = ap or_wrong h

text_back : (key : List ℕ) (t : Members) (text : List ℕ) → Says t key text → text_at key t ≡ Ok text
unfolding text_at
text_back key t text h = rw (field_back key t (string text) h) refl

table_back : (key : List ℕ) (t ms : Members) → get_member key t ≡ Some (table ms) → table_at key t ≡ Ok ms
unfolding table_at
table_back key t ms h = rw (field_back key t (table ms) h) refl

name_back : (t : Members) (name : List ℕ) → Says t (codes "name") name → is_full_name name ≡ true → name_at t ≡ Ok name
unfolding name_at
name_back t name says full = rw (text_back (codes "name") t name says, full) refl

terrain_back : (l : Terrain) → terrain_in (terrain_word l) ≡ Ok l
unfolding terrain_in
terrain_back Inland = refl
terrain_back Coast = refl
terrain_back Sea = refl

option_back : (o : Option Data) (b : Bool) → IsOption o b → flag_of o ≡ Ok b
option_back None b h = ap (λ x. Ok x) (sym h)
option_back (Some v) b h = ap (λ x. or_wrong (as_bool x)) h

army_back : (land : Terrain) (t : Members) (cs : List (List ℕ)) → AllByRecursion (λ c. is_code c ≡ true) cs → FitArmy land cs → get_member (codes "army") t ≡ army_field land cs → army_at land t ≡ Ok cs
army_back Inland t cs fit fits h = rw (field_back (codes "army") t (list_of cs) h) (codes_back cs fit)
army_back Coast t cs fit fits h = rw (field_back (codes "army") t (list_of cs) h) (codes_back cs fit)
army_back Sea t cs fit fits h = ap (λ x. Ok x) (sym fits)

only_back : (next : List Site) → AllByRecursion IsSite next → only_shore_at (list_of (map place_text next)) ≡ Ok (record { name = []; next = next } ∷ [])
unfolding only_shore_at
only_back next fit = rw (sites_back next fit) refl

shore_back : (s : ShoreDraft) → IsShore s → shore_at s.name (list_of (map place_text s.next)) ≡ Ok s
unfolding shore_at
shore_back s ok = rw (sites_back s.next ok.next, ok.name) refl

coasts_back : (ss : List ShoreDraft) → AllByRecursion IsShore ss → each_member shore_at (coast_lists ss) ≡ Ok ss
coasts_back [] fit = refl
coasts_back (s ∷ ss) fit =
    let here = shore_back s fit.0 in
    let behind : each_member shore_at (coast_lists ss) ≡ Ok ss = coasts_back ss fit.1 in
    rw (here, behind) refl

named_back : (ss : List ShoreDraft) → AreShores ss → shores_in (table (coast_lists ss)) ≡ Ok ss
unfolding shores_in
named_back ss ok = rw (coasts_back ss ok.each, ok.few) refl

shores_back : (land : Terrain) (t : Members) (ss : List ShoreDraft) → FitShores land ss → get_member (codes "fleet") t ≡ fleet_field ss → get_member (codes "coasts") t ≡ coasts_field ss → shores_at land t ≡ Ok ss
shores_back Inland t ss fit fleet coasts = ap (λ x. Ok x) (sym fit)
shores_back Sea t ss fit fleet coasts =
    let (next, is, sites) = fit in
    let list : get_member (codes "fleet") t ≡ Some (list_of (map place_text next)) = fleet ∙ ap fleet_field is in
    rw (field_back (codes "fleet") t (list_of (map place_text next)) list) (only_back next sites ∙ ap (λ x. Ok x) (sym is))
shores_back Coast t ss (inl fit) fleet coasts =
    let (next, is, sites) = fit in
    let list : get_member (codes "fleet") t ≡ Some (list_of (map place_text next)) = fleet ∙ ap fleet_field is in
    let none : get_member (codes "coasts") t ≡ None = coasts ∙ ap coasts_field is in
    rw (list, none) (only_back next sites ∙ ap (λ x. Ok x) (sym is))
shores_back Coast t ss (inr fit) fleet coasts =
    let (first, both) = two ss (and_parts (nat_le 2 (length ss)) _ fit.few).0 in
    let none : get_member (codes "fleet") t ≡ None = fleet ∙ first in
    let tab : get_member (codes "coasts") t ≡ Some (table (coast_lists ss)) = coasts ∙ both in
    rw (none, tab) (named_back ss fit)
  where
    two : (xs : List ShoreDraft) → nat_le 2 (length xs) ≡ true → (fleet_field xs ≡ None) × (coasts_field xs ≡ Some (table (coast_lists xs)))
    two [] h = absurd (false≢true h)
    two (s ∷ []) h = absurd (false≢true h)
    two (s ∷ u ∷ more) h = (refl, refl)

province_back : (t : Members) (p : ProvinceDraft) → SpellsProvince t p → IsProvince p → province_at p.code (table t) ≡ Ok p
unfolding province_at
province_back t p s ok =
    let name = name_back t p.name s.name ok.name in
    let word = text_back (codes "kind") t (terrain_word p.terrain) s.kind in
    let land = terrain_back p.terrain in
    let centre = option_back (get_member (codes "centre") t) p.centre s.centre in
    let army = army_back p.terrain t p.army ok.army ok.army_fits s.army in
    let shores = shores_back p.terrain t p.shores ok.shores s.fleet s.coasts in
    let sound : is_sound p.code p.terrain p.centre t ≡ true = and_from _ _ ok.code (and_from _ _ s.keys ok.centre) in
    rw (name, word, land, centre, army, shores, sound) refl

power_back : (t : Members) (p : PowerDraft) → SpellsPower t p → IsPower p → power_at p.name (table t) ≡ Ok p
unfolding power_at
power_back t p s ok =
    let homes = field_back (codes "home") t (list_of p.home) s.home in
    let home = codes_back p.home ok.home in
    let standings = field_back (codes "units") t (list_of (map unit_text p.units)) s.units in
    let units = units_back p.units ok.units in
    let sound : (is_power_name p.name && keys_are_among (codes "home" ∷ codes "units" ∷ []) t) ≡ true = and_from _ _ ok.name s.keys in
    rw (homes, home, standings, units, sound) refl

tables_back : {A : Type 0} (f : List ℕ → Data → Result A MapFault) (name : A → List ℕ) (Spelled : Members → A → Type 0) (Fits : A → Type 0)
    → ((t : Members) (x : A) → Spelled t x → Fits x → f (name x) (table t) ≡ Ok x) → (ms : Members) (xs : List A) → AreTables name Spelled ms xs → AllByRecursion Fits xs → each_member f ms ≡ Ok xs
tables_back f name Spelled Fits back no_members [] h fit = refl
tables_back f name Spelled Fits back no_members (x ∷ xs) h fit = absurd h
tables_back f name Spelled Fits back (member key v ms) [] h fit = absurd h
tables_back f name Spelled Fits back (member key v ms) (x ∷ xs) h fit =
    let ((named, t, is, spelled), rest) = h in
    let here : f key v ≡ Ok x = (λ i. f (named i) (is i)) ∙ back t x spelled fit.0 in
    let behind : each_member f ms ≡ Ok xs = tables_back f name Spelled Fits back ms xs rest fit.1 in
    rw (here, behind) refl

-- what a file spells, in the forms that it has to be written in, is read of it
pub file_back : (file : Members) (d : Draft) → Spells file d → IsDraft d → draft_at file ≡ Ok d
unfolding draft_at
file_back file d s ok =
    let (realms, has_realms, powers_are) = s.powers in
    let (lands, has_lands, lands_are) = s.provinces in
    let name = text_back (codes "name") file d.name s.name in
    let tab = table_back (codes "powers") file realms has_realms in
    let powers = tables_back power_at (λ (p : PowerDraft). p.name) SpellsPower IsPower power_back realms d.powers powers_are ok.powers in
    let other = table_back (codes "provinces") file lands has_lands in
    let provinces = tables_back province_at (λ (p : ProvinceDraft). p.code) SpellsProvince IsProvince province_back lands d.provinces lands_are ok.provinces in
    rw (name, tab, powers, other, provinces, s.keys) refl
