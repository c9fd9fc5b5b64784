-- A file that spells a draft: its tables hold what the draft holds, in the draft's order, and nothing else.
use Rattle.std.specs.Prelude.{◌≡◌, ◌++◌, ℕ, Bool, true, false, List, [], ◌∷◌, codes, map, Option, Some, None}
use Rattle.toml.specs.Data.{Data, string, boolean, array, table, Items, no_items, item, Members, no_members, member, get_member}
use Rattle.dip_names.specs.declared.names.Terrain.{Terrain}
use Rattle.dip_names.specs.declared.names.Terrain.TheVariants.{Inland, Coast, Sea}
use Rattle.dip_names.specs.declared.names.Kind.{Kind}
use Rattle.dip_names.specs.declared.names.Kind.TheVariants.{Army, Fleet}
use Rattle.dip_map_file.specs.Drafts.{Site, ShoreDraft, UnitDraft, ProvinceDraft, PowerDraft, Draft}
use Rattle.dip_map_file.specs.Fields.{keys_are_among}
use Rattle.dip_map_file.specs.Files.{keys_of}
use Rattle.dip_map_file.specs.Tables.{Says, site_text, terrain_word}

-- TOML's strings of these texts, in their order
abbrev pub strings : List (List ℕ) → Items
strings [] = no_items
strings (text ∷ more) = item (string text) (strings more)

-- the list of these texts
abbrev pub list_of : List (List ℕ) → Data
list_of texts = array (strings texts)

-- a place as it is written
abbrev pub place_text : Site → List ℕ
place_text s = site_text s.code s.coast

-- a unit as it is written: its letter, a space and its place
abbrev pub kind_prefix : Kind → List ℕ
kind_prefix Army = codes "A "
kind_prefix Fleet = codes "F "

abbrev pub unit_text : UnitDraft → List ℕ
unit_text u = kind_prefix u.kind ++ place_text u.site

-- where a fleet goes from each of these coasts, by the coast's name
abbrev pub coast_lists : List ShoreDraft → Members
coast_lists [] = no_members
coast_lists (s ∷ more) = member s.name (list_of (map place_text s.next)) (coast_lists more)

-- the field `army` of a province: a sea has none
abbrev pub army_field : Terrain → List (List ℕ) → Option Data
army_field Inland next = Some (list_of next)
army_field Coast next = Some (list_of next)
army_field Sea next = None

-- the field `fleet`: where a fleet goes from the only coast
abbrev pub fleet_field : List ShoreDraft → Option Data
fleet_field [] = None
fleet_field (s ∷ []) = Some (list_of (map place_text s.next))
fleet_field (s ∷ t ∷ more) = None

-- the field `coasts`: where a fleet goes from each of two or more
abbrev pub coasts_field : List ShoreDraft → Option Data
coasts_field [] = None
coasts_field (s ∷ []) = None
coasts_field (s ∷ t ∷ more) = Some (table (coast_lists (s ∷ t ∷ more)))

-- a field is an option with that value; one that isn't set may be left out
abbrev pub IsOption : Option Data → Bool → Type 0
IsOption None set = set ≡ false
IsOption (Some value) set = value ≡ boolean set

-- a province's table
pub record SpellsProvince (t : Members) (p : ProvinceDraft) : Type 0 where
  pub name : Says t (codes "name") p.name
  pub kind : Says t (codes "kind") (terrain_word p.terrain)
  pub centre : IsOption (get_member (codes "centre") t) p.centre
  pub army : get_member (codes "army") t ≡ army_field p.terrain p.army
  pub fleet : get_member (codes "fleet") t ≡ fleet_field p.shores
  pub coasts : get_member (codes "coasts") t ≡ coasts_field p.shores
  pub keys : keys_are_among (keys_of p.terrain) t ≡ true

-- a power's table
pub record SpellsPower (t : Members) (p : PowerDraft) : Type 0 where
  pub home : get_member (codes "home") t ≡ Some (list_of p.home)
  pub units : get_member (codes "units") t ≡ Some (list_of (map unit_text p.units))
  pub keys : keys_are_among (codes "home" ∷ codes "units" ∷ []) t ≡ true

-- one table for each of a list, by its name, in their order, and nothing else
abbrev pub AreTables : {A : Type 0} → (A → List ℕ) → (Members → A → Type 0) → Members → List A → Type 0
AreTables name Spelled no_members [] = Unit {0}
AreTables name Spelled no_members (x ∷ xs) = ⊥
AreTables name Spelled (member key value more) [] = ⊥
AreTables name Spelled (member key value more) (x ∷ xs) =
    ((key ≡ name x) × (t : Members) × (value ≡ table t) × Spelled t x)
    × AreTables name Spelled more xs

-- a file's table of tables
abbrev pub HasTables : {A : Type 0} → Members → List ℕ → (A → List ℕ) → (Members → A → Type 0) → List A → Type 0
HasTables file key name Spelled xs =
    (all : Members) × (get_member key file ≡ Some (table all)) × AreTables name Spelled all xs

-- a file
pub record Spells (file : Members) (d : Draft) : Type 0 where
  pub name : Says file (codes "name") d.name
  pub powers : HasTables file (codes "powers") (λ p. p.name) SpellsPower d.powers
  pub provinces : HasTables file (codes "provinces") (λ p. p.code) SpellsProvince d.provinces
  pub keys : keys_are_among (codes "name" ∷ codes "powers" ∷ codes "provinces" ∷ []) file ≡ true
