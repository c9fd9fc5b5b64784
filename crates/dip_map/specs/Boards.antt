-- What a board is, what is asked of it, and which boards are of a map.
use Rattle.std.specs.Prelude.{◌≡◌, ℕ, ◌<◌, ◌==◌, ◌+◌, nat_lt, ◌&&◌, Bool, true, false, All, List, [], ◌∷◌, map, length, Option, None, Some, is_some, not, count_by}
use Rattle.std.specs.List.{list_any, list_all, position, slice_index_or}
use Rattle.dip_map.specs.declared.boards.Season.{Season}
use Rattle.dip_map.specs.declared.boards.Season.TheVariants.{SpringMoves, SpringRetreats, FallMoves, FallRetreats, Winter}
use Rattle.dip_names.specs.declared.names.Unit.{Unit as AUnit}
use Rattle.dip_map.specs.declared.boards.Dislodged.{Dislodged}
use Rattle.dip_map.specs.declared.boards.Phase.{Phase}
use Rattle.dip_map_chart.specs.Charts.{Chart, provs, is_unit, is_centre, opening_units, are_units_single}

-- what stands on a board
pub record Position : Type 0 where
  pub units : List AUnit
  pub dislodged : List Dislodged
  pub standoff : List ℕ
  pub owners : List (Option ℕ)
  pub phase : Phase
  -- the game's option: an army goes by convoy also where a fleet of its own power is ordered to carry it
  pub intent : Bool

-- the place of a season in its year
abbrev pub season_number : Season → ℕ
season_number SpringMoves = 0
season_number SpringRetreats = 1
season_number FallMoves = 2
season_number FallRetreats = 3
season_number Winter = 4

-- a province that may be none is one of the map
abbrev pub is_prov_if_any : Chart → Option ℕ → Bool
is_prov_if_any m None = true
is_prov_if_any m (Some p) = nat_lt p (length m.provinces)

-- a power that may be none is one of the map
abbrev pub is_power_if_any : Chart → Option ℕ → Bool
is_power_if_any m None = true
is_power_if_any m (Some r) = nat_lt r (length m.realms)

-- the dislodged unit and its attacker's origin are of the map
abbrev pub is_dislodged : Chart → Dislodged → Bool
is_dislodged m d = is_unit m d.unit && is_prov_if_any m d.origin

-- a unit stands in the province
abbrev pub is_held : Position → ℕ → Bool
is_held b p = list_any (λ u. u.place.prov == p) b.units

-- a standoff left the province closed
abbrev pub is_standoff : Position → ℕ → Bool
is_standoff b p = list_any (λ q. q == p) b.standoff

-- each is less than all after it
abbrev pub are_ascending : List ℕ → Bool
are_ascending [] = true
are_ascending (p ∷ ps) = list_all (λ q. nat_lt p q) ps && are_ascending ps

-- the owner of a province, nobody where there is none
abbrev pub owner : Position → ℕ → Option ℕ
owner b p = slice_index_or b.owners p None

-- the owner, if there is one, is the power
abbrev pub is_power : ℕ → Option ℕ → Bool
is_power power None = false
is_power power (Some r) = r == power

-- the power owns the province
abbrev pub owns : Position → ℕ → ℕ → Bool
owns b power p = is_power power (owner b p)

-- a unit was dislodged from the province
abbrev pub is_left : Position → ℕ → Bool
is_left b p = list_any (λ d. d.unit.place.prov == p) b.dislodged

-- no unit, standing or dislodged, is in the province
abbrev pub is_vacant : Position → ℕ → Bool
is_vacant b p = not (is_held b p) && not (is_left b p)

-- how many centres the power owns
abbrev pub centres_owned : Position → ℕ → ℕ
centres_owned b power = count_by (λ o. is_power power o) b.owners

-- how many units the power has, standing and dislodged
abbrev pub units_counted : Position → ℕ → ℕ
units_counted b power = count_by (λ u. u.power == power) b.units + count_by (λ d. d.unit.power == power) b.dislodged

-- the board is one of the map: no two units stand in one province, and no two were dislodged from one;
-- only centres have owners; standoffs are told once, in the order of the provinces, and left their provinces empty
pub record IsOf (m : Chart) (b : Position) : Type 0 where
  pub units : All (λ u. is_unit m u ≡ true) b.units
  pub apart : are_units_single b.units ≡ true
  pub dislodged : All (λ d. is_dislodged m d ≡ true) b.dislodged
  pub dislodged_apart : are_units_single (map (λ d. d.unit) b.dislodged) ≡ true
  pub standoff : All (λ p. p < length m.provinces) b.standoff
  pub standoff_once : are_ascending b.standoff ≡ true
  pub standoff_empty : All (λ p. is_held b p ≡ false) b.standoff
  pub owners : All (λ o. is_power_if_any m o ≡ true) b.owners
  pub owners_count : length b.owners ≡ length m.provinces
  pub owners_centres : (p : ℕ) → is_some (owner b p) ≡ true → is_centre m p ≡ true

-- whose home centre a province is
abbrev pub owner_at : Chart → ℕ → Option ℕ
owner_at m p = position (λ r. list_any (λ x. x == p) r.home) m.realms

-- the board of the opening
abbrev pub opening : Chart → Position
opening m = record {
  units = opening_units m;
  dislodged = [];
  standoff = [];
  owners = map (owner_at m) (provs m);
  phase = record { year = 1901; season = SpringMoves };
  intent = false;
}
