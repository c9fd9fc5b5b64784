-- What is known of a file from what was read of it.
use Rattle.std.proofs.lemmas.List.{take-append-drop}
use Rattle.std.proofs.Common.{◌==◌, ◌++◌, nat_le, take, drop, ◌≡◌, ◌↔◌, ℕ, ◌⊎◌, ◌<◌, ◌&&◌, zero, suc, length, get_or, Contains, Bool, true, false, List, [], ◌∷◌, codes, refl, sym, ◌∙◌, ap, subst, inl, inr, arith, cond, Option, Some, None, Result, Ok, Err}
use Rattle.std.proofs.lemmas.Bool.{and_parts, cases_Bool, eqb-true, false≢true}
use Rattle.std.proofs.lemmas.Map.Text.{is_eq-slice_cmp}
use Rattle.std.proofs.lemmas.Slice.Eq.{bytes_eq-Decides}
use Rattle.std.specs.Cmp.Lexicographic.{slice_cmp}
use Rattle.std.specs.List.{list_any}
use Rattle.std.proofs.Common.{Ordering, Less, Equal, Greater}
use Rattle.std.specs.Ordering.{nat_cmp, is_eq, match_ordering}
use Rattle.std.specs.Str.{bytes_eq}
use Rattle.toml.specs.Data.{Data, string, integer, float, boolean, datetime, array, table, Items, no_items, item, Members, no_members, member, get_item, get_member, as_str, as_array, as_table, as_bool}
use Rattle.dip_names.specs.declared.faults.MapFault.{MapFault}
use Rattle.dip_names.specs.declared.faults.MapFault.TheVariants.{WrongField}
use Rattle.dip_names.specs.declared.names.Terrain.{Terrain}
use Rattle.dip_names.specs.declared.names.Terrain.TheVariants.{Inland, Coast, Sea}
use Rattle.dip_names.specs.Forms.{is_coast_name, is_code, is_full_name, is_power_name}
use Rattle.dip_map_file.specs.Drafts.{Site, ShoreDraft, UnitDraft, ProvinceDraft, PowerDraft, Draft}
use Rattle.dip_map_file.specs.Fields.{or_wrong, each_item, each_member, field_at, text_at, table_at, flag_of, keys_are_among}
use Rattle.dip_names.specs.Results.{◌>>=◌}
use Rattle.dip_map_file.specs.Files.{coast_in, either_shores, only_shore_at, shore_at, shores_in, site_at, site_in, sites_at, army_at, code_at, codes_at, draft_at, is_sound, keys_of, terrain_in, name_at, power_at, province_at, shores_at, units_at}
use Rattle.dip_map_file.specs.Tables.{FleetNames, Names, Says, behind_slash, site_text, terrain_word}

-- what came of what was read, one after the other
pub bind_ok : {A B : Type 0} (r : Result A MapFault) (f : A → Result B MapFault) (y : B) → r >>= f ≡ Ok y → (x : A) × (r ≡ Ok x) × (f x ≡ Ok y)
bind_ok (Ok x) f y h = (x, refl, h)
bind_ok (Err e) f y h = absurd (cc)

pub or_wrong_ok : {A : Type 0} (o : Option A) (x : A) → or_wrong o ≡ Ok x → o ≡ Some x
or_wrong_ok None x h = absurd (cc)
or_wrong_ok (Some y) x h = let e : y ≡ x = cc in ap (λ z. Some z) e

pub if_ok : {A : Type 0} (t : Bool) (x y : A) → cond t (Ok x) (Err WrongField) ≡ Ok y → (t ≡ true) × (x ≡ y)
if_ok true x y h = (refl, cc)
if_ok false x y h = absurd (cc)

pub is_string : (v : Data) (s : List ℕ) → as_str v ≡ Some s → v ≡ string s
is_string (string t) s h = let e : t ≡ s = cc in ap (λ x. string x) e
is_string (integer z) s h = absurd (cc)
is_string (float x) s h = absurd (cc)
is_string (boolean b) s h = absurd (cc)
is_string (datetime d) s h = absurd (cc)
is_string (array ds) s h = absurd (cc)
is_string (table ms) s h = absurd (cc)

pub is_array : (v : Data) (ds : Items) → as_array v ≡ Some ds → v ≡ array ds
is_array (string t) ds h = absurd (cc)
is_array (integer z) ds h = absurd (cc)
is_array (float x) ds h = absurd (cc)
is_array (boolean b) ds h = absurd (cc)
is_array (datetime d) ds h = absurd (cc)
is_array (array es) ds h = let e : es ≡ ds = cc in ap (λ x. array x) e
is_array (table ms) ds h = absurd (cc)

pub is_table : (v : Data) (ms : Members) → as_table v ≡ Some ms → v ≡ table ms
is_table (string t) ms h = absurd (cc)
is_table (integer z) ms h = absurd (cc)
is_table (float x) ms h = absurd (cc)
is_table (boolean b) ms h = absurd (cc)
is_table (datetime d) ms h = absurd (cc)
is_table (array es) ms h = absurd (cc)
is_table (table ns) ms h = let e : ns ≡ ms = cc in ap (λ x. table x) e

pub is_boolean : (v : Data) (b : Bool) → as_bool v ≡ Some b → v ≡ boolean b
is_boolean (string t) b h = absurd (cc)
is_boolean (integer z) b h = absurd (cc)
is_boolean (float x) b h = absurd (cc)
is_boolean (boolean c) b h = let e : c ≡ b = cc in ap (λ x. boolean x) e
is_boolean (datetime d) b h = absurd (cc)
is_boolean (array es) b h = absurd (cc)
is_boolean (table ns) b h = absurd (cc)

-- a field, a text and a table
pub field_is : (key : List ℕ) (t : Members) (v : Data) → field_at key t ≡ Ok v → get_member key t ≡ Some v
unfolding field_at
field_is key t v h = or_wrong_ok (get_member key t) v h

pub text_is : (key : List ℕ) (t : Members) (s : List ℕ) → text_at key t ≡ Ok s → Says t key s
unfolding text_at
text_is key t s h =
    let (v, field, text) = bind_ok (field_at key t) (λ v. or_wrong (as_str v)) s h in
    field_is key t v field ∙ ap (λ x. Some x) (is_string v s (or_wrong_ok (as_str v) s text))

pub table_is : (key : List ℕ) (t ms : Members) → table_at key t ≡ Ok ms → get_member key t ≡ Some (table ms)
unfolding table_at
table_is key t ms h =
    let (v, field, text) = bind_ok (field_at key t) (λ v. or_wrong (as_table v)) ms h in
    field_is key t v field ∙ ap (λ x. Some x) (is_table v ms (or_wrong_ok (as_table v) ms text))

pub name_is : (t : Members) (s : List ℕ) → name_at t ≡ Ok s → Says t (codes "name") s
unfolding name_at
name_is t s h =
    let (text, field, rest) = bind_ok (text_at (codes "name") t) (λ name. cond (is_full_name name) (Ok name) (Err WrongField)) s h in
    text_is (codes "name") t s (field ∙ ap (λ x. Ok x) (if_ok (is_full_name text) text s rest).1)

-- an element is the first or one of the others
pub element_cases : {A : Type 0} (x : A) (xs : List A) (y : A) (k : ℕ) → k < length (x ∷ xs) → get_or (x ∷ xs) k y ≡ y → (x ≡ y) ⊎ Contains xs y
element_cases x xs y zero low at = inl at
element_cases x xs y (suc k) low at = inr (k, omega arith, at)

pub contains_more : {A : Type 0} (x y : A) (xs : List A) → Contains xs y → Contains (x ∷ xs) y
contains_more x y xs c = (suc c.0, omega (arith, c.1), c.2)

pub contains_first : {A : Type 0} (x : A) (xs : List A) → Contains (x ∷ xs) x
contains_first x xs = (0, omega arith, refl)

-- the items of a list are the texts that were read
pub items_to : {A : Type 0} (f : Data → Result A MapFault) (spell : A → List ℕ) → ((v : Data) (x : A) → f v ≡ Ok x → v ≡ string (spell x)) → (ds : Items) (xs : List A) → each_item f ds ≡ Ok xs
    → (x : A) → Contains xs x → (n : ℕ) × (get_item n ds ≡ Some (string (spell x)))
items_to f spell spelled no_items xs h x c =
    let e : [] ≡ xs = cc in
    absurd (omega (arith, c.1, ap (λ ys. length ys) e))
items_to f spell spelled (item d ds) xs h x c =
    let (y, first, rest) = bind_ok (f d) (λ y. each_item f ds >>= λ more. Ok (y ∷ more)) xs h in
    let (ys, others, all) = bind_ok (each_item f ds) (λ more. Ok (y ∷ more)) xs rest in
    let e : xs ≡ y ∷ ys = cc in
    let there : Contains (y ∷ ys) x = subst (λ zs. Contains zs x) e c in
    elim (element_cases y ys x there.0 there.1 there.2) [
      | inl is ↦ (0, ap (λ v. Some v) (spelled d y first ∙ ap (λ z. string (spell z)) is))
      | inr more ↦ let (n, at) = items_to f spell spelled ds ys others x more in (suc n, at)
    ]

pub items_from : {A : Type 0} (f : Data → Result A MapFault) (spell : A → List ℕ) → ((v : Data) (x : A) → f v ≡ Ok x → v ≡ string (spell x)) → (ds : Items) (xs : List A) → each_item f ds ≡ Ok xs
    → (n : ℕ) (text : List ℕ) → get_item n ds ≡ Some (string text) → (x : A) × Contains xs x × (spell x ≡ text)
items_from f spell spelled no_items xs h n text at = absurd (cc)
items_from f spell spelled (item d ds) xs h zero text at =
    let (y, first, rest) = bind_ok (f d) (λ y. each_item f ds >>= λ more. Ok (y ∷ more)) xs h in
    let (ys, others, all) = bind_ok (each_item f ds) (λ more. Ok (y ∷ more)) xs rest in
    let e : y ∷ ys ≡ xs = cc in
    let here : d ≡ string text = cc in
    let is : string (spell y) ≡ string text = sym (spelled d y first) ∙ here in
    (y, subst (λ zs. Contains zs y) e (contains_first y ys), cc)
items_from f spell spelled (item d ds) xs h (suc n) text at =
    let (y, first, rest) = bind_ok (f d) (λ y. each_item f ds >>= λ more. Ok (y ∷ more)) xs h in
    let (ys, others, all) = bind_ok (each_item f ds) (λ more. Ok (y ∷ more)) xs rest in
    let e : y ∷ ys ≡ xs = cc in
    let (x, there, is) = items_from f spell spelled ds ys others n text at in
    (x, subst (λ zs. Contains zs x) e (contains_more y x ys there), is)

-- the member of a key
match_equal : {X : Type 0} (o : Ordering) (a b : X) → is_eq o ≡ true → match_ordering o a b a ≡ b
match_equal Less a b h = absurd (false≢true h)
match_equal Equal a b h = refl
match_equal Greater a b h = absurd (false≢true h)

match_other : {X : Type 0} (o : Ordering) (a b : X) → is_eq o ≡ false → match_ordering o a b a ≡ a
match_other Less a b h = refl
match_other Equal a b h = absurd (false≢true (sym h))
match_other Greater a b h = refl

member_here : (c key : List ℕ) (d : Data) (ms : Members) → key ≡ c → get_member c (member key d ms) ≡ Some d
member_here c key d ms e = match_equal (slice_cmp nat_cmp c key) (get_member c ms) (Some d) (is_eq-slice_cmp c key ∙ (bytes_eq-Decides c key).1 (sym e))

member_past : (c key : List ℕ) (d : Data) (ms : Members) → bytes_eq key c ≡ false → get_member c (member key d ms) ≡ get_member c ms
member_past c key d ms h = match_other (slice_cmp nat_cmp c key) (get_member c ms) (Some d) (is_eq-slice_cmp c key ∙ not_same)
  where
    not_same : bytes_eq c key ≡ false
    not_same =
        elim (cases_Bool (bytes_eq c key)) [
          | inl same ↦ absurd (false≢true (sym h ∙ (bytes_eq-Decides key c).1 (sym ((bytes_eq-Decides c key).0 same))))
          | inr other ↦ other
        ]

-- where a key stands first, its member is what was read there
pub member_at : {A : Type 0} (f : List ℕ → Data → Result A MapFault) (code : A → List ℕ) → ((key : List ℕ) (v : Data) (x : A) → f key v ≡ Ok x → code x ≡ key)
    → (ms : Members) (xs : List A) → each_member f ms ≡ Ok xs → (c : List ℕ) (i : ℕ) (none : A) → i < length xs → bytes_eq (code (get_or xs i none)) c ≡ true
    → ((k : ℕ) → k < i → bytes_eq (code (get_or xs k none)) c ≡ false) → (v : Data) × (get_member c ms ≡ Some v) × (f c v ≡ Ok (get_or xs i none))
member_at {A = A} f code keyed no_members xs h c i none low here first =
    let e : [] ≡ xs = cc in
    absurd (omega (arith, low, ap (λ ys. length ys) e))
member_at {A = A} f code keyed (member key d ms) xs h c i none low here first =
    let (y, read, rest) = bind_ok (f key d) (λ y. each_member f ms >>= λ more. Ok (y ∷ more)) xs h in
    let (ys, others, all) = bind_ok (each_member f ms) (λ more. Ok (y ∷ more)) xs rest in
    let e : xs ≡ y ∷ ys = cc in
    subst (λ zs. (v : Data) × (get_member c (member key d ms) ≡ Some v) × (f c v ≡ Ok (get_or zs i none))) (sym e)
    (go y ys read (λ j l at before. member_at f code keyed ms ys others c j none l at before) i (subst (λ zs. i < length zs) e low) (subst (λ zs. bytes_eq (code (get_or zs i none)) c ≡ true) e here)
    (subst (λ zs. (k : ℕ) → k < i → bytes_eq (code (get_or zs k none)) c ≡ false) e first))
  where
    go : (y : A) (ys : List A) → f key d ≡ Ok y
        → ((j : ℕ) → j < length ys → bytes_eq (code (get_or ys j none)) c ≡ true → ((k : ℕ) → k < j → bytes_eq (code (get_or ys k none)) c ≡ false) → (v : Data) × (get_member c ms ≡ Some v) × (f c v ≡ Ok (get_or ys j none)))
        → (j : ℕ) → j < length (y ∷ ys) → bytes_eq (code (get_or (y ∷ ys) j none)) c ≡ true
        → ((k : ℕ) → k < j → bytes_eq (code (get_or (y ∷ ys) k none)) c ≡ false) → (v : Data) × (get_member c (member key d ms) ≡ Some v) × (f c v ≡ Ok (get_or (y ∷ ys) j none))
    go y ys read again zero low here first =
        let same : key ≡ c = sym (keyed key d y read) ∙ (bytes_eq-Decides (code y) c).0 here in
        (d, member_here c key d ms same, ap (λ k. f k d) (sym same) ∙ read)
    go y ys read again (suc j) low here first =
        let other : bytes_eq key c ≡ false = ap (λ k. bytes_eq k c) (sym (keyed key d y read)) ∙ first 0 (omega arith) in
        let (v, there, is) = again j (omega (arith, low)) here (λ k l. first (suc k) (omega (arith, l))) in
        (v, member_past c key d ms other ∙ there, is)

-- no other key is a field
pub no_field : (keys : List (List ℕ)) (t : Members) (c : List ℕ) → keys_are_among keys t ≡ true → list_any (λ k. bytes_eq k c) keys ≡ false → get_member c t ≡ None
no_field keys no_members c among none = refl
no_field keys (member key d ms) c among none =
    let (one, rest) = and_parts (list_any (λ k. bytes_eq k key) keys) (keys_are_among keys ms) among in
    elim (cases_Bool (bytes_eq key c)) [
      | inl same ↦ let e : key ≡ c = (bytes_eq-Decides key c).0 same in absurd (false≢true (sym none ∙ (ap (λ x. list_any (λ k. bytes_eq k x) keys) (sym e) ∙ one)))
      | inr other ↦ member_past c key d ms other ∙ no_field keys ms c rest none
    ]

-- a list of codes
pub code_is : (v : Data) (c : List ℕ) → code_at v ≡ Ok c → v ≡ string c
unfolding code_at
code_is v c h =
    let (text, read, rest) = bind_ok (or_wrong (as_str v)) (λ text. cond (is_code text) (Ok text) (Err WrongField)) c h in
    is_string v text (or_wrong_ok (as_str v) text read) ∙ ap (λ x. string x) (if_ok (is_code text) text c rest).1

-- what is known of a list of codes in a table
pub record ListsCodes (t : Members) (key : List ℕ) (cs : List (List ℕ)) : Type 0 where
  pub to : (c : List ℕ) → Contains cs c → Names t key c
  pub from : (c : List ℕ) → Names t key c → Contains cs c

pub lists_codes : (t : Members) (key : List ℕ) (cs : List (List ℕ)) → (field_at key t >>= codes_at) ≡ Ok cs → ListsCodes t key cs
unfolding codes_at
lists_codes t key cs h =
    let (v, field, list) = bind_ok (field_at key t) codes_at cs h in
    let (ds, array_read, read) = bind_ok (or_wrong (as_array v)) (λ items. each_item code_at items) cs list in
    let is : get_member key t ≡ Some (array ds) = field_is key t v field ∙ ap (λ x. Some x) (is_array v ds (or_wrong_ok (as_array v) ds array_read)) in
    record {
      to = λ c there. (ds, is, items_to code_at (λ x. x) code_is ds cs read c there);
      from = λ c names.
          let same : Some (array names.0) ≡ Some (array ds) = sym names.1 ∙ is in
          let e : names.0 ≡ ds = cc in
          let at : get_item names.2.0 ds ≡ Some (string c) = ap (λ x. get_item names.2.0 x) (sym e) ∙ names.2.1 in
          let (x, there, spelled) = items_from code_at (λ x. x) code_is ds cs read names.2.0 c at in
          subst (λ x. Contains cs x) spelled there;
    }

-- a sea has no list of an army's neighbours
no_codes : (t : Members) (key : List ℕ) → get_member key t ≡ None → ListsCodes t key []
no_codes t key none = record {
  to = λ c there. absurd (omega (arith, there.1));
  from = λ c names. let bad : None ≡ Some (array names.0) = sym none ∙ names.1 in absurd (cc);
}

-- what is known of a province's table
pub record ProvinceRead (t : Members) (w : ProvinceDraft) : Type 0 where
  pub name : Says t (codes "name") w.name
  pub word : List ℕ
  pub kind : Says t (codes "kind") word
  pub terrain : terrain_in word ≡ Ok w.terrain
  pub flag : flag_of (get_member (codes "centre") t) ≡ Ok w.centre
  pub army : ListsCodes t (codes "army") w.army
  pub army_list : army_at w.terrain t ≡ Ok w.army
  pub shores : shores_at w.terrain t ≡ Ok w.shores
  pub sound : is_sound w.code w.terrain w.centre t ≡ true

army_read : (l : Terrain) (code : List ℕ) (centre : Bool) (t : Members) (cs : List (List ℕ)) → army_at l t ≡ Ok cs → is_sound code l centre t ≡ true → ListsCodes t (codes "army") cs
army_read Inland code centre t cs h sound = lists_codes t (codes "army") cs h
army_read Coast code centre t cs h sound = lists_codes t (codes "army") cs h
army_read Sea code centre t cs h sound =
    let (_, rest) = and_parts (is_code code) _ sound in
    let (keys, _) = and_parts (keys_are_among (keys_of Sea) t) _ rest in
    let e : [] ≡ cs = cc in
    subst (λ xs. ListsCodes t (codes "army") xs) e (no_codes t (codes "army") (no_field (keys_of Sea) t (codes "army") keys refl))

-- the word of what a province is
pub terrain_is : (word : List ℕ) (l : Terrain) → terrain_in word ≡ Ok l → word ≡ terrain_word l
unfolding terrain_in
terrain_is word l h =
    elim (cases_Bool (bytes_eq word (codes "inland"))) [
      | inl inland ↦ let e : Ok Inland ≡ Ok l = rw inland at h in let is : Inland ≡ l = cc in (bytes_eq-Decides word (codes "inland")).0 inland ∙ ap terrain_word is
      | inr not_inland ↦
          elim (cases_Bool (bytes_eq word (codes "coast"))) [
            | inl coast ↦ let e : Ok Coast ≡ Ok l = rw (not_inland, coast) at h in let is : Coast ≡ l = cc in (bytes_eq-Decides word (codes "coast")).0 coast ∙ ap terrain_word is
            | inr not_coast ↦
                elim (cases_Bool (bytes_eq word (codes "sea"))) [
                  | inl sea ↦ let e : Ok Sea ≡ Ok l = rw (not_inland, not_coast, sea) at h in let is : Sea ≡ l = cc in (bytes_eq-Decides word (codes "sea")).0 sea ∙ ap terrain_word is
                  | inr not_sea ↦ let e : Err WrongField ≡ Ok l = rw (not_inland, not_coast, not_sea) at h in absurd (cc)
                ]
          ]
    ]

-- whether a flag is set
pub flag_is : (o : Option Data) (b : Bool) → flag_of o ≡ Ok b → (b ≡ true) ↔ (o ≡ Some (boolean true))
flag_is None b h = let e : false ≡ b = cc in (λ is. absurd (cc), λ is. absurd (cc))
flag_is (Some v) b h =
    let is : v ≡ boolean b = is_boolean v b (or_wrong_ok (as_bool v) b h) in
    (λ yes_b. ap (λ x. Some x) (is ∙ ap (λ x. boolean x) yes_b), λ same. let both : Some (boolean b) ≡ Some (boolean true) = ap (λ x. Some x) (sym is) ∙ same in cc)

-- what is read of a province's table, one field after the other
abbrev with_shores : List ℕ → Members → List ℕ → Terrain → Bool → List (List ℕ) → List ShoreDraft → Result ProvinceDraft MapFault
with_shores code fields name land centre army shores =
    cond (is_sound code land centre fields) (Ok (record { code = code; name = name; terrain = land; centre = centre; army = army; shores = shores })) (Err WrongField)

abbrev with_army : List ℕ → Members → List ℕ → Terrain → Bool → List (List ℕ) → Result ProvinceDraft MapFault
with_army code fields name land centre army = shores_at land fields >>= with_shores code fields name land centre army

abbrev with_centre : List ℕ → Members → List ℕ → Terrain → Bool → Result ProvinceDraft MapFault
with_centre code fields name land centre = army_at land fields >>= with_army code fields name land centre

abbrev with_land : List ℕ → Members → List ℕ → Terrain → Result ProvinceDraft MapFault
with_land code fields name land = flag_of (get_member (codes "centre") fields) >>= with_centre code fields name land

abbrev with_word : List ℕ → Members → List ℕ → List ℕ → Result ProvinceDraft MapFault
with_word code fields name word = terrain_in word >>= with_land code fields name

abbrev with_name : List ℕ → Members → List ℕ → Result ProvinceDraft MapFault
with_name code fields name = text_at (codes "kind") fields >>= with_word code fields name

abbrev with_fields : List ℕ → Members → Result ProvinceDraft MapFault
with_fields code fields = name_at fields >>= with_name code fields

-- a province that was read: its table, and what is known of it
pub record ReadProvince (code : List ℕ) (v : Data) (w : ProvinceDraft) : Type 0 where
  pub fields : Members
  pub is : v ≡ table fields
  pub code_same : w.code ≡ code
  pub read : ProvinceRead fields w

pub province_read : (code : List ℕ) (v : Data) (w : ProvinceDraft) → province_at code v ≡ Ok w → ReadProvince code v w
unfolding province_at
province_read code v w h =
    let (t, tab, h1) = bind_ok (or_wrong (as_table v)) (with_fields code) w h in
    let (name, named, h2) = bind_ok (name_at t) (with_name code t) w h1 in
    let (word, worded, h3) = bind_ok (text_at (codes "kind") t) (with_word code t name) w h2 in
    let (land, landed, h4) = bind_ok (terrain_in word) (with_land code t name) w h3 in
    let (centre, flagged, h5) = bind_ok (flag_of (get_member (codes "centre") t)) (with_centre code t name land) w h4 in
    let (army, listed, h6) = bind_ok (army_at land t) (with_army code t name land centre) w h5 in
    let (shores, shored, h7) = bind_ok (shores_at land t) (with_shores code t name land centre army) w h6 in
    let (sound, same) = if_ok (is_sound code land centre t) (record { code = code; name = name; terrain = land; centre = centre; army = army; shores = shores }) w h7 in
    record {
      fields = t;
      is = is_table v t (or_wrong_ok (as_table v) t tab);
      code_same = sym (ap (λ (x : ProvinceDraft). x.code) same);
      read = subst (λ (x : ProvinceDraft). ProvinceRead t x) same (record {
        name = name_is t name named;
        word = word;
        kind = text_is (codes "kind") t word worded;
        terrain = landed;
        flag = flagged;
        army = army_read land code centre t army listed sound;
        army_list = listed;
        shores = shored;
        sound = sound;
      });
    }

-- what is read of a power's table
abbrev with_units : List ℕ → Members → List (List ℕ) → List UnitDraft → Result PowerDraft MapFault
with_units name fields home units =
    cond (is_power_name name && keys_are_among (codes "home" ∷ codes "units" ∷ []) fields) (Ok (record { name = name; home = home; units = units })) (Err WrongField)

abbrev with_standings : List ℕ → Members → List (List ℕ) → Data → Result PowerDraft MapFault
with_standings name fields home standings = units_at standings >>= with_units name fields home

abbrev with_home : List ℕ → Members → List (List ℕ) → Result PowerDraft MapFault
with_home name fields home = field_at (codes "units") fields >>= with_standings name fields home

abbrev with_homes : List ℕ → Members → Data → Result PowerDraft MapFault
with_homes name fields homes = codes_at homes >>= with_home name fields

abbrev with_table : List ℕ → Members → Result PowerDraft MapFault
with_table name fields = field_at (codes "home") fields >>= with_homes name fields

pub record PowerRead (t : Members) (w : PowerDraft) : Type 0 where
  pub home : ListsCodes t (codes "home") w.home
  pub home_list : (field_at (codes "home") t >>= codes_at) ≡ Ok w.home
  pub units_list : (field_at (codes "units") t >>= units_at) ≡ Ok w.units
  pub keys : keys_are_among (codes "home" ∷ codes "units" ∷ []) t ≡ true

pub record ReadPower (name : List ℕ) (v : Data) (w : PowerDraft) : Type 0 where
  pub fields : Members
  pub is : v ≡ table fields
  pub name_same : w.name ≡ name
  pub read : PowerRead fields w

pub power_read : (name : List ℕ) (v : Data) (w : PowerDraft) → power_at name v ≡ Ok w → ReadPower name v w
unfolding power_at
power_read name v w h =
    let (t, tab, h1) = bind_ok (or_wrong (as_table v)) (with_table name) w h in
    let (homes, field, h2) = bind_ok (field_at (codes "home") t) (with_homes name t) w h1 in
    let (home, listed, h3) = bind_ok (codes_at homes) (with_home name t) w h2 in
    let (standings, there, h4) = bind_ok (field_at (codes "units") t) (with_standings name t home) w h3 in
    let (units, stood, h5) = bind_ok (units_at standings) (with_units name t home) w h4 in
    let (sound, same) = if_ok (is_power_name name && keys_are_among (codes "home" ∷ codes "units" ∷ []) t) (record { name = name; home = home; units = units }) w h5 in
    record {
      fields = t;
      is = is_table v t (or_wrong_ok (as_table v) t tab);
      name_same = sym (ap (λ (x : PowerDraft). x.name) same);
      read = subst (λ (x : PowerDraft). PowerRead t x) same (record {
        home = lists_codes t (codes "home") home (ap (λ r. r >>= codes_at) field ∙ listed);
        home_list = ap (λ r. r >>= codes_at) field ∙ listed;
        units_list = ap (λ r. r >>= units_at) there ∙ stood;
        keys = (and_parts (is_power_name name) _ sound).1;
      });
    }

-- what is read of a file
abbrev with_provinces : Members → List ℕ → List PowerDraft → List ProvinceDraft → Result Draft MapFault
with_provinces file name powers provinces =
    cond (keys_are_among (codes "name" ∷ codes "powers" ∷ codes "provinces" ∷ []) file) (Ok (record { name = name; powers = powers; provinces = provinces })) (Err WrongField)

abbrev with_lands : Members → List ℕ → List PowerDraft → Members → Result Draft MapFault
with_lands file name powers lands = each_member province_at lands >>= with_provinces file name powers

abbrev with_powers : Members → List ℕ → List PowerDraft → Result Draft MapFault
with_powers file name powers = table_at (codes "provinces") file >>= with_lands file name powers

abbrev with_realms : Members → List ℕ → Members → Result Draft MapFault
with_realms file name realms = each_member power_at realms >>= with_powers file name

abbrev with_map_name : Members → List ℕ → Result Draft MapFault
with_map_name file name = table_at (codes "powers") file >>= with_realms file name

-- a file that was read: its tables of powers and of provinces
pub record ReadFile (file : Members) (d : Draft) : Type 0 where
  pub name : Says file (codes "name") d.name
  pub realms : Members
  pub has_realms : get_member (codes "powers") file ≡ Some (table realms)
  pub powers : each_member power_at realms ≡ Ok d.powers
  pub lands : Members
  pub has_lands : get_member (codes "provinces") file ≡ Some (table lands)
  pub provinces : each_member province_at lands ≡ Ok d.provinces
  pub keys : keys_are_among (codes "name" ∷ codes "powers" ∷ codes "provinces" ∷ []) file ≡ true

pub file_read : (file : Members) (d : Draft) → draft_at file ≡ Ok d → ReadFile file d
unfolding draft_at
file_read file d h =
    let (name, named, h1) = bind_ok (text_at (codes "name") file) (with_map_name file) d h in
    let (realms, tab, h2) = bind_ok (table_at (codes "powers") file) (with_realms file name) d h1 in
    let (powers, each, h3) = bind_ok (each_member power_at realms) (with_powers file name) d h2 in
    let (lands, other, h4) = bind_ok (table_at (codes "provinces") file) (with_lands file name powers) d h3 in
    let (provinces, all, h5) = bind_ok (each_member province_at lands) (with_provinces file name powers) d h4 in
    let (keys, same) = if_ok (keys_are_among (codes "name" ∷ codes "powers" ∷ codes "provinces" ∷ []) file) (record { name = name; powers = powers; provinces = provinces }) d h5 in
    subst (λ (x : Draft). ReadFile file x) same (record {
      name = text_is (codes "name") file name named;
      realms = realms;
      has_realms = table_is (codes "powers") file realms tab;
      powers = each;
      lands = lands;
      has_lands = table_is (codes "provinces") file lands other;
      provinces = all;
      keys = keys;
    })

-- a place is spelled by its code and its coast
pub if_read : {A : Type 0} (t : Bool) (r : Result A MapFault) (y : A) → cond t r (Err WrongField) ≡ Ok y → (t ≡ true) × (r ≡ Ok y)
if_read true r y h = (refl, h)
if_read false r y h = absurd (cc)

coast_spelled : (rest coast : List ℕ) → coast_in rest ≡ Ok coast → rest ≡ behind_slash coast
coast_spelled [] coast h = let e : [] ≡ coast = cc in ap behind_slash e
coast_spelled (b ∷ name) coast h =
    let (test, same) = if_ok ((b == 47) && is_coast_name name) name coast h in
    let (slash, named) = and_parts (b == 47) (is_coast_name name) test in
    ap (λ x. x ∷ name) (eqb-true b 47 slash) ∙ (letters name named ∙ ap behind_slash same)
  where
    letters : (n : List ℕ) → is_coast_name n ≡ true → 47 ∷ n ≡ behind_slash n
    letters [] h = absurd (false≢true h)
    letters (x ∷ xs) h = refl

pub record Spelled (text : List ℕ) (s : Site) : Type 0 where
  pub spelled : text ≡ site_text s.code s.coast
  pub code : is_code s.code ≡ true

pub site_spelled : (text : List ℕ) (s : Site) → site_in text ≡ Ok s → Spelled text s
unfolding site_in
site_spelled text s h =
    let (test, read) = if_read (nat_le 3 (length text) && is_code (take 3 text)) (coast_in (drop 3 text) >>= λ coast. Ok (record { code = take 3 text; coast = coast })) s h in
    let (coast, there, made) = bind_ok (coast_in (drop 3 text)) (λ coast. Ok (record { code = take 3 text; coast = coast })) s read in
    let is : record { code = take 3 text; coast = coast } ≡ s = cc in
    let spelled : text ≡ site_text (take 3 text) coast = sym (take-append-drop 3 text) ∙ ap (λ x. take 3 text ++ x) (coast_spelled (drop 3 text) coast there) in
    subst (λ (x : Site). Spelled text x) is (record { spelled = spelled; code = (and_parts (nat_le 3 (length text)) (is_code (take 3 text)) test).1 })

pub site_is : (v : Data) (s : Site) → site_at v ≡ Ok s → v ≡ string (site_text s.code s.coast)
unfolding site_at
site_is v s h =
    let (text, read, rest) = bind_ok (or_wrong (as_str v)) site_in s h in
    is_string v text (or_wrong_ok (as_str v) text read) ∙ ap (λ x. string x) (site_spelled text s rest).spelled

-- what is known of a list of places in a table
pub record ListsSites (t : Members) (key : List ℕ) (ss : List Site) : Type 0 where
  pub to : (s : Site) → Contains ss s → Names t key (site_text s.code s.coast)
  pub from : (text : List ℕ) → Names t key text → (s : Site) × Contains ss s × (site_text s.code s.coast ≡ text)

lists_sites : (t : Members) (key : List ℕ) (v : Data) (ss : List Site) → get_member key t ≡ Some v → sites_at v ≡ Ok ss → ListsSites t key ss
unfolding sites_at
lists_sites t key v ss field list =
    let (ds, array_read, read) = bind_ok (or_wrong (as_array v)) (λ items. each_item site_at items) ss list in
    let is : get_member key t ≡ Some (array ds) = field ∙ ap (λ x. Some x) (is_array v ds (or_wrong_ok (as_array v) ds array_read)) in
    record {
      to = λ s there. (ds, is, items_to site_at (λ (x : Site). site_text x.code x.coast) site_is ds ss read s there);
      from = λ text names.
          let same : Some (array names.0) ≡ Some (array ds) = sym names.1 ∙ is in
          let e : names.0 ≡ ds = cc in
          let at : get_item names.2.0 ds ≡ Some (string text) = ap (λ x. get_item names.2.0 x) (sym e) ∙ names.2.1 in
          items_from site_at (λ (x : Site). site_text x.code x.coast) site_is ds ss read names.2.0 text at;
    }

-- what is known of the list of a coast
pub record ListsShore (t : Members) (name : List ℕ) (ss : List Site) : Type 0 where
  pub to : (s : Site) → Contains ss s → FleetNames t name (site_text s.code s.coast)
  pub from : (text : List ℕ) → FleetNames t name text → (s : Site) × Contains ss s × (site_text s.code s.coast ≡ text)

abbrev pub no_shore_draft : ShoreDraft
no_shore_draft = record { name = []; next = [] }

-- the only coast, without a name
only_shore : (t : Members) (v : Data) (shores : List ShoreDraft) → get_member (codes "fleet") t ≡ Some v → only_shore_at v ≡ Ok shores → (i : ℕ) → i < length shores
    → ListsShore t (get_or shores i no_shore_draft).name (get_or shores i no_shore_draft).next
unfolding only_shore_at
only_shore t v shores field h i low =
    let (next, read, made) = bind_ok (sites_at v) (λ next. Ok (record { name = []; next = next } ∷ [])) shores h in
    let is : record { name = []; next = next } ∷ [] ≡ shores = cc in
    let lists = lists_sites t (codes "fleet") v next field read in
    let first : i < 1 = subst (λ ss. i < length ss) (sym is) low in
    let zero_is : 0 ≡ i = omega (arith, first) in
    let one : ListsShore t [] next = record { to = lists.to; from = lists.from } in
    subst (λ ss. ListsShore t (get_or ss i no_shore_draft).name (get_or ss i no_shore_draft).next) is
    (subst (λ n. ListsShore t (get_or (record { name = []; next = next } ∷ []) n no_shore_draft).name (get_or (record { name = []; next = next } ∷ []) n no_shore_draft).next) zero_is one)

-- a coast with a name
pub record ReadShore (name : List ℕ) (v : Data) (s : ShoreDraft) : Type 0 where
  pub name_same : s.name ≡ name
  pub named : is_coast_name name ≡ true
  pub next : sites_at v ≡ Ok s.next

pub shore_read : (name : List ℕ) (v : Data) (s : ShoreDraft) → shore_at name v ≡ Ok s → ReadShore name v s
unfolding shore_at
shore_read name v s h =
    let (next, read, made) = bind_ok (sites_at v) (λ next. cond (is_coast_name name) (Ok (record { name = name; next = next })) (Err WrongField)) s h in
    let (named, is) = if_ok (is_coast_name name) (record { name = name; next = next }) s made in
    subst (λ (x : ShoreDraft). ReadShore name v x) is (record { name_same = refl; named = named; next = read })

-- where a name stands first among those of the coasts
abbrev pub IsFirst : List ShoreDraft → ℕ → Type 0
IsFirst shores i =
    (bytes_eq (get_or shores i no_shore_draft).name (get_or shores i no_shore_draft).name ≡ true)
    × ((k : ℕ) → k < i → bytes_eq (get_or shores k no_shore_draft).name (get_or shores i no_shore_draft).name ≡ false)

named_shore : (t : Members) (v : Data) (shores : List ShoreDraft) → get_member (codes "coasts") t ≡ Some v → shores_in v ≡ Ok shores → (i : ℕ) → i < length shores → IsFirst shores i
    → ListsShore t (get_or shores i no_shore_draft).name (get_or shores i no_shore_draft).next
unfolding shores_in
named_shore t v shores field h i low first =
    let (coasts, tab, rest) = bind_ok (or_wrong (as_table v)) (λ coasts. each_member shore_at coasts >>= λ found. cond (nat_le 2 (length found) && nat_le (length found) 4) (Ok found) (Err WrongField)) shores h in
    let (found, each, kept) = bind_ok (each_member shore_at coasts) (λ found. cond (nat_le 2 (length found) && nat_le (length found) 4) (Ok found) (Err WrongField)) shores rest in
    let (few, same) = if_ok (nat_le 2 (length found) && nat_le (length found) 4) found shores kept in
    let all : each_member shore_at coasts ≡ Ok shores = each ∙ ap (λ x. Ok x) same in
    let s : ShoreDraft = get_or shores i no_shore_draft in
    let (value, there, read) = member_at shore_at (λ (x : ShoreDraft). x.name) (λ key d x e. (shore_read key d x e).name_same) coasts shores all s.name i no_shore_draft low first.0 first.1 in
    let made = shore_read s.name value s read in
    let has : get_member (codes "coasts") t ≡ Some (table coasts) = field ∙ ap (λ x. Some x) (is_table v coasts (or_wrong_ok (as_table v) coasts tab)) in
    by_name coasts s.name s.next made.named has (lists_sites coasts s.name value s.next there made.next)
  where
    by_name : (coasts : Members) (name : List ℕ) (next : List Site) → is_coast_name name ≡ true → get_member (codes "coasts") t ≡ Some (table coasts) → ListsSites coasts name next → ListsShore t name next
    by_name coasts [] next named has lists = absurd (false≢true named)
    by_name coasts (b ∷ bs) next named has lists = record {
      to = λ s among. (coasts, has, lists.to s among);
      from = λ text names.
          let both : Some (table names.0) ≡ Some (table coasts) = sym names.1 ∙ has in
          let e : names.0 ≡ coasts = cc in
          lists.from text (subst (λ x. Names x (b ∷ bs) text) e names.2);
    }

-- the list of each coast of a province
pub shore_told : (land : Terrain) (t : Members) (shores : List ShoreDraft) → shores_at land t ≡ Ok shores → (i : ℕ) → i < length shores → IsFirst shores i
    → ListsShore t (get_or shores i no_shore_draft).name (get_or shores i no_shore_draft).next
shore_told Inland t shores h i low first =
    let e : [] ≡ shores = cc in
    absurd (omega (arith, low, ap (λ (ss : List ShoreDraft). length ss) e))
shore_told Sea t shores h i low first =
    let (v, field, read) = bind_ok (field_at (codes "fleet") t) only_shore_at shores h in
    only_shore t v shores (field_is (codes "fleet") t v field) read i low
shore_told Coast t shores h i low first = either (get_member (codes "fleet") t) (get_member (codes "coasts") t) refl refl h
  where
    either : (fleet coasts : Option Data) → get_member (codes "fleet") t ≡ fleet → get_member (codes "coasts") t ≡ coasts → either_shores fleet coasts ≡ Ok shores
        → ListsShore t (get_or shores i no_shore_draft).name (get_or shores i no_shore_draft).next
    either (Some f) None is_fleet no_coasts read = only_shore t f shores is_fleet read i low
    either None (Some c) no_fleet is_coasts read = named_shore t c shores is_coasts read i low first
    either None None no_fleet no_coasts read = absurd (cc)
    either (Some f) (Some c) is_fleet is_coasts read = absurd (cc)
