-- How a board is written in rows and read from them: provinces stand by code, powers and coasts by name.
use Rattle.std.specs.Prelude.{◌≡◌, ℕ, suc, ◌==◌, Bool, List, [], ◌∷◌, ◌++◌, map, filter, Option, None, Some, option_and_then, bytes_eq, if◌then◌else◌}
use Rattle.std.specs.List.{find}
use Rattle.dip_names.specs.declared.names.Kind.{Kind}
use Rattle.dip_names.specs.declared.names.Kind.TheVariants.{Army, Fleet}
use Rattle.dip_names.specs.declared.names.Place.{Place}
use Rattle.dip_names.specs.declared.names.Unit.{Unit as AUnit}
use Rattle.dip_map.specs.Charts.{Chart, province, realm, shore, prov_of, power_of, coast_of}
use Rattle.dip_map.specs.Boards.{Position, IsOf, season_number}
use Rattle.dip_map.specs.declared.boards.Dislodged.{Dislodged}
use Rattle.dip_map.specs.declared.boards.Season.{Season}
use Rattle.dip_map.specs.declared.boards.Season.TheVariants.{SpringMoves, SpringRetreats, FallMoves, FallRetreats, Winter}
pub use Rattle.dip_store_rows.specs.Tables.{CentreRow, UnitRow}

-- what a province is told by, and a power
abbrev pub code : Chart → ℕ → List ℕ
code m p = (province m p).code

abbrev pub power_name : Chart → ℕ → List ℕ
power_name m r = (realm m r).name

-- the number of a kind
abbrev pub kind_number : Kind → ℕ
kind_number Army = 0
kind_number Fleet = 1

-- an army's coast is not told
abbrev pub coast_text : Chart → Kind → Place → List ℕ
coast_text m Army a = []
coast_text m Fleet a = (shore m a).name

abbrev pub origin_text : Chart → Option ℕ → List ℕ
origin_text m None = []
origin_text m (Some p) = code m p

abbrev pub unit_row : Chart → List ℕ → ℕ → Option ℕ → AUnit → UnitRow
unit_row m game dislodged origin u = record {
  game = game;
  province = code m u.place.prov;
  dislodged = dislodged;
  power = power_name m u.power;
  kind = kind_number u.kind;
  coast = coast_text m u.kind u.place;
  origin = origin_text m origin;
}

abbrev pub standing_row : Chart → List ℕ → AUnit → UnitRow
standing_row m game u = unit_row m game 0 None u

abbrev pub dislodged_row : Chart → List ℕ → Dislodged → UnitRow
dislodged_row m game d = unit_row m game 1 d.origin d.unit

-- the standing units, and after them the dislodged ones
abbrev pub unit_rows : Chart → List ℕ → Position → List UnitRow
unit_rows m game b = map (standing_row m game) b.units ++ map (dislodged_row m game) b.dislodged

-- the owned ones of the provinces from a number on; one without an owner has no row
abbrev pub centre_rows_from : Chart → List ℕ → ℕ → List (Option ℕ) → List CentreRow
centre_rows_from m game p [] = []
centre_rows_from m game p (None ∷ os) = centre_rows_from m game (suc p) os
centre_rows_from m game p (Some r ∷ os) =
    record { game = game; province = code m p; power = power_name m r } ∷ centre_rows_from m game (suc p) os

abbrev pub centre_rows : Chart → List ℕ → Position → List CentreRow
centre_rows m game b = centre_rows_from m game 0 b.owners

-- the codes, joined by spaces
abbrev pub standoff_text : Chart → List ℕ → List ℕ
standoff_text m [] = []
standoff_text m (p ∷ []) = code m p
standoff_text m (p ∷ q ∷ ps) = code m p ++ 32 ∷ standoff_text m (q ∷ ps)

-- a number that is to be there
abbrev pub or_zero : Option ℕ → ℕ
or_zero None = 0
or_zero (Some n) = n

-- the province of a code, and the power of a name
abbrev pub prov_in : Chart → List ℕ → ℕ
prov_in m c = or_zero (prov_of m c)

abbrev pub power_in : Chart → List ℕ → ℕ
power_in m name = or_zero (power_of m name)

abbrev pub kind_of : ℕ → Kind
kind_of n = if n == 0 then Army else Fleet

abbrev pub season_of : ℕ → Season
season_of n =
    if n == 0 then SpringMoves else if n == 1 then SpringRetreats else if n == 2 then FallMoves
    else if n == 3 then FallRetreats else Winter

abbrev pub place_of : Chart → Kind → ℕ → List ℕ → Place
place_of m Army p coast = record { prov = p; coast = 0 }
place_of m Fleet p coast = record { prov = p; coast = or_zero (coast_of m p coast) }

abbrev pub unit_of : Chart → UnitRow → AUnit
unit_of m r = record {
  power = power_in m r.power;
  kind = kind_of r.kind;
  place = place_of m (kind_of r.kind) (prov_in m r.province) r.coast;
}

-- an empty text is no code
abbrev pub origin_of : Chart → List ℕ → Option ℕ
origin_of m [] = None
origin_of m (x ∷ xs) = prov_of m (x ∷ xs)

abbrev pub dislodged_of : Chart → UnitRow → Dislodged
dislodged_of m r = record { unit = unit_of m r; origin = origin_of m r.origin }

abbrev pub stands : UnitRow → Bool
stands r = r.dislodged == 0

abbrev pub fell : UnitRow → Bool
fell r = r.dislodged == 1

-- the power of the first row of the province
abbrev pub owner_in : Chart → List CentreRow → List ℕ → Option ℕ
owner_in m rows c = option_and_then (λ r. power_of m r.power) (find (λ r. bytes_eq r.province c) rows)

abbrev pub owner_at : Chart → List CentreRow → ℕ → Option ℕ
owner_at m rows p = owner_in m rows (code m p)

-- three bytes a code, and one between two
abbrev pub standoff_of : Chart → List ℕ → List ℕ
standoff_of m (a ∷ b ∷ c ∷ d ∷ rest) = prov_in m (a ∷ b ∷ c ∷ []) ∷ standoff_of m rest
standoff_of m (a ∷ b ∷ c ∷ []) = prov_in m (a ∷ b ∷ c ∷ []) ∷ []
standoff_of m _ = []

-- the board of a game's rows, with its text of standoffs, its year, the number of its season, and whether it has the option INTENT
abbrev pub board_of : Chart → List UnitRow → List CentreRow → List ℕ → ℕ → ℕ → Bool → Position
board_of m units centres standoff year season intent = record {
  units = map (unit_of m) (filter stands units);
  dislodged = map (dislodged_of m) (filter fell units);
  standoff = standoff_of m standoff;
  owners = map (λ p. owner_in m centres p.code) m.provinces;
  phase = record { year = year; season = season_of season };
  intent = intent;
}

-- a board of the map
abbrev pub BoardsComeBack : Chart → Type 0
BoardsComeBack m = (game : List ℕ) (b : Position) → IsOf m b
    → board_of m (unit_rows m game b) (centre_rows m game b) (standoff_text m b.standoff) b.phase.year (season_number b.phase.season) b.intent ≡ b
