-- What a map's file writes, read off the TOML that it is, or its first fault: M1 where it is none, M2 where a field is missing,
-- isn't known, or is of the wrong type or form.
use Rattle.std.specs.Prelude.{ℕ, ◌==◌, ◌&&◌, ◌||◌, nat_le, not, Bool, true, false, List, [], ◌∷◌, length, take, drop, codes, Option, Some, None, Result, Ok, Err, if◌then◌else◌}
use Rattle.std.specs.Str.{bytes_eq}
use Rattle.toml.specs.Parse.{parse_document}
use Rattle.toml.specs.Data.{Data, Members, get_member, as_str, as_array, as_table}
use Rattle.dip_names.specs.declared.faults.MapFault.{MapFault}
use Rattle.dip_names.specs.declared.faults.MapFault.TheVariants.{NotToml, WrongField}
use Rattle.dip_names.specs.declared.names.Terrain.{Terrain}
use Rattle.dip_names.specs.declared.names.Terrain.TheVariants.{Inland, Coast, Sea}
use Rattle.dip_names.specs.declared.names.Kind.TheVariants.{Army, Fleet}
use Rattle.dip_names.specs.Forms.{is_code, is_coast_name, is_full_name, is_power_name}
use Rattle.dip_map_file.specs.Drafts.{Site, ShoreDraft, ProvinceDraft, UnitDraft, PowerDraft, Draft}
use Rattle.dip_map_file.specs.Fields.{or_wrong, each_item, each_member, field_at, text_at, table_at, flag_of, keys_are_among}
use Rattle.dip_names.specs.Results.{◌>>=◌}

-- a code of three letters
unfoldable pub code_at : Data → Result (List ℕ) MapFault
code_at value = do
  text ← or_wrong (as_str value)
  if is_code text then Ok text else Err WrongField

-- what stands after a place's code: nothing, or a slash and the name of a coast
abbrev pub coast_in : List ℕ → Result (List ℕ) MapFault
coast_in [] = Ok []
coast_in (b ∷ name) = if (b == 47) && is_coast_name name then Ok name else Err WrongField

-- a place: a code, and a coast or none
unfoldable pub site_in : List ℕ → Result Site MapFault
site_in text =
    if nat_le 3 (length text) && is_code (take 3 text) then (do
      coast ← coast_in (drop 3 text)
      Ok (record { code = take 3 text; coast = coast }))
    else Err WrongField

-- a field that is a place
unfoldable pub site_at : Data → Result Site MapFault
site_at value = do
  text ← or_wrong (as_str value)
  site_in text

-- a unit by its letter: an army's place has no coast
abbrev pub unit_by : ℕ → Site → Result UnitDraft MapFault
unit_by b site =
    if b == 70 then Ok (record { kind = Fleet; site = site })
    else if (b == 65) && (length site.coast == 0) then Ok (record { kind = Army; site = site })
    else Err WrongField

-- a unit: `A`, a space and a code, or `F`, a space and a place
abbrev pub unit_in : List ℕ → Result UnitDraft MapFault
unit_in (b ∷ space ∷ place) = if space == 32 then site_in place >>= unit_by b else Err WrongField
unit_in text = Err WrongField

-- a field that is a unit
unfoldable pub unit_at : Data → Result UnitDraft MapFault
unit_at value = do
  text ← or_wrong (as_str value)
  unit_in text

-- lists of codes, places and units
unfoldable pub codes_at : Data → Result (List (List ℕ)) MapFault
codes_at value = do
  items ← or_wrong (as_array value)
  each_item code_at items

unfoldable pub sites_at : Data → Result (List Site) MapFault
sites_at value = do
  items ← or_wrong (as_array value)
  each_item site_at items

unfoldable pub units_at : Data → Result (List UnitDraft) MapFault
units_at value = do
  items ← or_wrong (as_array value)
  each_item unit_at items

-- a full name
unfoldable pub name_at : Members → Result (List ℕ) MapFault
name_at fields = do
  name ← text_at (codes "name") fields
  if is_full_name name then Ok name else Err WrongField

-- what a province is, by its word
unfoldable pub terrain_in : List ℕ → Result Terrain MapFault
terrain_in word =
    if bytes_eq word (codes "inland") then Ok Inland
    else if bytes_eq word (codes "coast") then Ok Coast
    else if bytes_eq word (codes "sea") then Ok Sea
    else Err WrongField

-- the fields that a province may have
abbrev pub keys_of : Terrain → List (List ℕ)
keys_of Inland = codes "name" ∷ codes "kind" ∷ codes "centre" ∷ codes "army" ∷ []
keys_of Coast = codes "name" ∷ codes "kind" ∷ codes "centre" ∷ codes "army" ∷ codes "fleet" ∷ codes "coasts" ∷ []
keys_of Sea = codes "name" ∷ codes "kind" ∷ codes "centre" ∷ codes "fleet" ∷ []

-- where an army goes: a sea has no such list
abbrev pub army_at : Terrain → Members → Result (List (List ℕ)) MapFault
army_at Sea fields = Ok []
army_at terrain fields = field_at (codes "army") fields >>= codes_at

-- the one coast, without a name, of a province that has no coasts of its own
unfoldable pub only_shore_at : Data → Result (List ShoreDraft) MapFault
only_shore_at value = do
  next ← sites_at value
  Ok (record { name = []; next = next } ∷ [])

-- a coast with a name of two letters
unfoldable pub shore_at : List ℕ → Data → Result ShoreDraft MapFault
shore_at name value = do
  next ← sites_at value
  if is_coast_name name then Ok (record { name = name; next = next }) else Err WrongField

-- 2 to 4 coasts
unfoldable pub shores_in : Data → Result (List ShoreDraft) MapFault
shores_in value = do
  coasts ← or_wrong (as_table value)
  shores ← each_member shore_at coasts
  if nat_le 2 (length shores) && nat_le (length shores) 4 then Ok shores else Err WrongField

-- the coasts of a coastal province: it has either `fleet` or `coasts`
abbrev pub either_shores : Option Data → Option Data → Result (List ShoreDraft) MapFault
either_shores (Some fleet) None = only_shore_at fleet
either_shores None (Some coasts) = shores_in coasts
either_shores fleet coasts = Err WrongField

-- the coasts of a province
abbrev pub shores_at : Terrain → Members → Result (List ShoreDraft) MapFault
shores_at Inland fields = Ok []
shores_at Coast fields = either_shores (get_member (codes "fleet") fields) (get_member (codes "coasts") fields)
shores_at Sea fields = field_at (codes "fleet") fields >>= only_shore_at

-- whether a province may be a centre
abbrev pub may_be_centre : Terrain → Bool
may_be_centre Sea = false
may_be_centre terrain = true

-- whether a province has a code, no field but its own, and is a centre only on land
abbrev pub is_sound : List ℕ → Terrain → Bool → Members → Bool
is_sound code terrain centre fields = is_code code && (keys_are_among (keys_of terrain) fields && (not centre || may_be_centre terrain))

-- a province by its code and its table: the keys that its kind has, and no others
unfoldable pub province_at : List ℕ → Data → Result ProvinceDraft MapFault
province_at code value = do
  fields ← or_wrong (as_table value)
  name ← name_at fields
  word ← text_at (codes "kind") fields
  terrain ← terrain_in word
  centre ← flag_of (get_member (codes "centre") fields)
  army ← army_at terrain fields
  shores ← shores_at terrain fields
  if is_sound code terrain centre fields
      then Ok (record { code = code; name = name; terrain = terrain; centre = centre; army = army; shores = shores })
      else Err WrongField

-- a power by its name and its table: `home` and `units`, and no other keys
unfoldable pub power_at : List ℕ → Data → Result PowerDraft MapFault
power_at name value = do
  fields ← or_wrong (as_table value)
  homes ← field_at (codes "home") fields
  home ← codes_at homes
  standings ← field_at (codes "units") fields
  units ← units_at standings
  if is_power_name name && keys_are_among (codes "home" ∷ codes "units" ∷ []) fields
      then Ok (record { name = name; home = home; units = units })
      else Err WrongField

-- all that a file writes
unfoldable pub draft_at : Members → Result Draft MapFault
draft_at file = do
  name ← text_at (codes "name") file
  realms ← table_at (codes "powers") file
  powers ← each_member power_at realms
  lands ← table_at (codes "provinces") file
  provinces ← each_member province_at lands
  if keys_are_among (codes "name" ∷ codes "powers" ∷ codes "provinces" ∷ []) file
      then Ok (record { name = name; powers = powers; provinces = provinces })
      else Err WrongField

-- the TOML of a text
abbrev pub or_no_toml : Option Members → Result Members MapFault
or_no_toml (Some file) = Ok file
or_no_toml None = Err NotToml

unfoldable pub file_in : List ℕ → Result Members MapFault
file_in text = or_no_toml (parse_document text)
