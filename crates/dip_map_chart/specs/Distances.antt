-- The graphs in which distances are searched, and what a table of distances says.
use Rattle.std.specs.Prelude.{ℕ, ◌+◌, ◌*◌, ◌/◌, ◌%◌, ◌<◌, ◌≡◌, ◌&&◌, nat_lt, Bool, List, [], length, map, slice_index_or, if◌then◌else◌}
use Rattle.std.specs.List.{range_with_len}
use Rattle.dip_map_chart.specs.Walk.{at, AreLeast}
use Rattle.dip_names.specs.declared.names.Kind.{Kind}
use Rattle.dip_names.specs.declared.names.Kind.TheVariants.{Army, Fleet}
use Rattle.dip_names.specs.declared.names.Place.{Place}
use Rattle.dip_map_chart.specs.Charts.{Chart, fleet_next, is_fleet_place}
use Rattle.dip_map_chart.specs.Walks.{ways, IsDistance}
use Rattle.dip_map_chart.specs.Charts.{is_home}

-- the vertex of a place in the graph of fleets, which has four for each province
abbrev pub vertex : Place → ℕ
vertex a = a.prov * 4 + a.coast

-- the place of a vertex in the graph of fleets
abbrev pub place_at : ℕ → Place
place_at v = record { prov = v / 4; coast = v % 4 }

-- whether a fleet at the place is in a home centre of the power
abbrev pub is_haven : Chart → ℕ → Place → Bool
is_haven m r a = is_fleet_place m a && is_home m r a.prov

-- how many vertices the graph of a kind of unit has: the provinces, or four for each
abbrev pub vertices : Chart → Kind → ℕ
vertices m Army = length m.provinces
vertices m Fleet = length m.provinces * 4

-- the neighbours of a vertex
abbrev pub row : Chart → Kind → ℕ → List ℕ
row m Army v = ways m v
row m Fleet v = map (λ b. vertex b) (fleet_next m (place_at v))

-- whether a vertex is a home centre of the power
abbrev pub is_home_at : Chart → Kind → ℕ → ℕ → Bool
is_home_at m Army r v = is_home m r v
is_home_at m Fleet r v = is_haven m r (place_at v)

-- the graph of a kind of unit
abbrev pub graph : Chart → Kind → List (List ℕ)
graph m kind = map (λ v. row m kind v) (range_with_len 0 (vertices m kind))

-- the home centres of a power in that graph
abbrev pub homes : Chart → Kind → ℕ → List Bool
homes m kind r = map (λ v. is_home_at m kind r v) (range_with_len 0 (vertices m kind))

-- the first n powers have each a table of the least distances to their home centres
pub record AreTables (m : Chart) (kind : Kind) (n : ℕ) (tables : List (List ℕ)) : Type 0 where
  pub count : length tables ≡ n
  pub least : (r : ℕ) → r < n → AreLeast (graph m kind) (homes m kind r) (slice_index_or tables r [])

-- the distance of a power's table
abbrev pub noted_at : List (List ℕ) → ℕ → ℕ → ℕ
noted_at tables r v = at (slice_index_or tables r []) v

-- the tables of both kinds of unit, a list for each power: by provinces for armies, by vertices for fleets
pub record Tables : Type 0 where
  pub armies : List (List ℕ)
  pub fleets : List (List ℕ)

-- the distance that the tables note for a place
abbrev pub distance_in : Tables → Kind → Place → ℕ → ℕ
distance_in d Army a r = noted_at d.armies r a.prov
distance_in d Fleet a r = if nat_lt a.coast 4 then noted_at d.fleets r (vertex a) else 1000

-- what the tables note are the distances on the map
pub record AreDistances (m : Chart) (d : Tables) : Type 0 where
  pub each : (kind : Kind) (a : Place) (r : ℕ) → IsDistance m kind a r (distance_in d kind a r)
