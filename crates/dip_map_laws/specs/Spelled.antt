-- What a file that states a map writes: the map's own draft, in which each number is the code or the name that it stands for.
use Rattle.std.specs.Prelude.{◌≡◌, ◌↔◌, ℕ, List, [], map, Some, Ok}
use Rattle.dip_names.specs.declared.names.Kind.{Kind}
use Rattle.dip_names.specs.declared.names.Kind.TheVariants.{Army, Fleet}
use Rattle.dip_names.specs.declared.names.Place.{Place}
use Rattle.dip_names.specs.declared.names.Unit.{Unit as AUnit}
use Rattle.dip_map_chart.specs.Charts.{Chart, IsMap, Province, Realm, Shore, province, shore}
use Rattle.dip_map_file.specs.Drafts.{Draft, PowerDraft, ProvinceDraft, ShoreDraft, Site, UnitDraft}
use Rattle.dip_map_laws.specs.Spelling.{Spells}
use Rattle.dip_map_file.specs.Tables.{Members, parse_document}
use Rattle.dip_map_text.specs.Stated.{map_in}

-- the code of a province
abbrev pub code_of : Chart → ℕ → List ℕ
code_of m p = (province m p).code

-- a place by its province's code and its coast's name
abbrev pub site_of : Chart → Place → Site
site_of m a = record { code = code_of m a.prov; coast = (shore m a).name }

-- a unit's place: an army's tells no coast
abbrev pub site_by : Chart → Kind → Place → Site
site_by m Army a = record { code = code_of m a.prov; coast = [] }
site_by m Fleet a = site_of m a

abbrev pub unit_draft : Chart → AUnit → UnitDraft
unit_draft m u = record { kind = u.kind; site = site_by m u.kind u.place }

abbrev pub shore_draft : Chart → Shore → ShoreDraft
shore_draft m s = record { name = s.name; next = map (site_of m) s.next }

abbrev pub province_draft : Chart → Province → ProvinceDraft
province_draft m r = record {
  code = r.code;
  name = r.name;
  terrain = r.terrain;
  centre = r.centre;
  army = map (code_of m) r.army;
  shores = map (shore_draft m) r.shores;
}

abbrev pub power_draft : Chart → Realm → PowerDraft
power_draft m r = record { name = r.name; home = map (code_of m) r.home; units = map (unit_draft m) r.units }

abbrev pub map_draft : Chart → Draft
map_draft m = record {
  name = m.name;
  powers = map (power_draft m) m.realms;
  provinces = map (province_draft m) m.provinces;
}

-- a text spells a map: it is TOML, and its tables hold what the map's draft holds, and nothing else
abbrev pub SpellsMap : List ℕ → Chart → Type 0
SpellsMap text m = (file : Members) × (parse_document text ≡ Some file) × Spells file (map_draft m)

-- a text states a map just where it spells it
abbrev pub StatesWhatItSpells : Type 0
StatesWhatItSpells =
    (text : List ℕ) (m : Chart) → IsMap m → (map_in text ≡ Ok m) ↔ SpellsMap text m
