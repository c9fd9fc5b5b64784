-- What a map's file tells of the map, in words of its tables and lists.
use Rattle.std.specs.Prelude.{◌≡◌, ◌↔◌, ◌<◌, ℕ, true, Contains, List, codes, length, Some, Ok}
use Rattle.dip_map_file.specs.Tables.{FleetNames, HasTable, Members, Names, Says, boolean, get_member, parse_document, site_text, terrain_word}
use Rattle.dip_names.specs.declared.names.Place.{Place}
use Rattle.dip_map_chart.specs.Charts.{Chart, IsMap, home, is_army_next, is_fleet_next, is_fleet_place, province, realm, shore}
use Rattle.dip_map_text.specs.Stated.{map_in}

-- a place as it is written: its province's code, and the name of its coast, if it has one
abbrev pub place_text : Chart → Place → List ℕ
place_text m a = site_text (province m a.prov).code (shore m a).name

-- what its table tells of a province: its full name, what it is, whether it is a centre, its neighbours by land, each by its
-- code, and from each of its coasts the places where a fleet goes
pub record IsTold (m : Chart) (p : ℕ) (t : Members) : Type 0 where
  pub name : Says t (codes "name") (province m p).name
  pub terrain : Says t (codes "kind") (terrain_word (province m p).terrain)
  pub centre : ((province m p).centre ≡ true) ↔ (get_member (codes "centre") t ≡ Some (boolean true))
  pub army : (q : ℕ) → q < length m.provinces
      → (is_army_next m p q ≡ true) ↔ Names t (codes "army") (province m q).code
  pub fleet : (c : ℕ) (to : Place) → c < length (province m p).shores → is_fleet_place m to ≡ true
      → (is_fleet_next m (record { prov = p; coast = c }) to ≡ true)
      ↔ FleetNames t (shore m (record { prov = p; coast = c })).name (place_text m to)

-- what its table tells of a power: its home centres, each by its code
pub record IsToldPower (m : Chart) (r : ℕ) (t : Members) : Type 0 where
  pub home : (p : ℕ) → p < length m.provinces
      → Contains (home m r) p ↔ Names t (codes "home") (province m p).code

-- what a file tells of a map: its name, and each province and each power in a table of its own
pub record Tells (file : Members) (m : Chart) : Type 0 where
  pub name : Says file (codes "name") m.name
  pub provinces : (p : ℕ) → p < length m.provinces
      → (t : Members) × HasTable file (codes "provinces") (province m p).code t × IsTold m p t
  pub powers : (r : ℕ) → r < length m.realms
      → (t : Members) × HasTable file (codes "powers") (realm m r).name t × IsToldPower m r t

-- a text states only the map that its file tells
abbrev pub StatesWhatItTells : Type 0
StatesWhatItTells =
    (text : List ℕ) (m : Chart) → IsMap m → map_in text ≡ Ok m
    → (file : Members) × (parse_document text ≡ Some file) × Tells file m
