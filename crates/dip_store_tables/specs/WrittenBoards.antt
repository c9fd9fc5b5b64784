-- Rows that were written of a board of a map: each code and name in them is one of the map.
use Rattle.std.specs.Prelude.{◌≡◌, ◌<◌, ◌≤◌, ℕ, true, List, length, Option}
use Rattle.std.specs.List.{AllByRecursion}
use Rattle.dip_names.specs.declared.names.Unit.{Unit as AUnit}
use Rattle.dip_map.specs.Charts.{Chart, is_unit}
use Rattle.dip_map.specs.Boards.{is_prov_if_any}
use Rattle.dip_store_tables.specs.Boards.{UnitRow, CentreRow, origin_text, power_name, unit_row, standoff_text}

-- the row of a unit of the map, standing or dislodged
abbrev pub IsUnitRow : Chart → UnitRow → Type 0
IsUnitRow m r =
    (u : AUnit) × (origin : Option ℕ) × (is_unit m u ≡ true) × (is_prov_if_any m origin ≡ true) × (r.dislodged ≤ 1)
    × (r ≡ unit_row m r.game r.dislodged origin u)

-- no text, or the code of a province of the map
abbrev pub IsOriginText : Chart → List ℕ → Type 0
IsOriginText m text = (origin : Option ℕ) × (is_prov_if_any m origin ≡ true) × (text ≡ origin_text m origin)

-- the row of a centre that a power of the map owns
abbrev pub IsCentreRow : Chart → CentreRow → Type 0
IsCentreRow m r = (owner : ℕ) × (owner < length m.realms) × (r.power ≡ power_name m owner)

-- the codes of provinces of the map
abbrev pub IsStandoffText : Chart → List ℕ → Type 0
IsStandoffText m text =
    (ps : List ℕ) × AllByRecursion (λ p. p < length m.provinces) ps × (text ≡ standoff_text m ps)

-- rows in which nothing is foreign to the map, and the number of a season
pub record AreOfBoard (m : Chart) (units : List UnitRow) (centres : List CentreRow) (standoff : List ℕ) (season : ℕ) : Type 0 where
  pub units_are : AllByRecursion (IsUnitRow m) units
  pub centres_are : AllByRecursion (IsCentreRow m) centres
  pub standoff_is : IsStandoffText m standoff
  pub season_is : season ≤ 4
