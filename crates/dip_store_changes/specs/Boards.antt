-- What a board makes of the tables.
use Rattle.std.specs.Prelude.{ℕ, List, ◌++◌}
use Rattle.dip_map.specs.Charts.{Chart}
use Rattle.dip_map.specs.Boards.{Position}
use Rattle.dip_store_tables.specs.Lists.{delete_where}
use Rattle.dip_store_tables.specs.Boards.{UnitRow, CentreRow, unit_rows, centre_rows}
use Rattle.dip_store_tables.specs.Tables.{Tables, is_centre_in, is_unit_in}
use Rattle.dip_store_sql.specs.Keys.{Differ, same_centre, same_unit}

-- records after the others
abbrev pub more_units : List UnitRow → Tables → Tables
more_units us t = record t { units = t.units ++ us }

abbrev pub more_centres : List CentreRow → Tables → Tables
more_centres cs t = record t { centres = t.centres ++ cs }

-- a game's units and owned centres are those of a board
abbrev pub with_board : Chart → List ℕ → Position → Tables → Tables
with_board m game b t = record t {
  units = delete_where (is_unit_in game) t.units ++ unit_rows m game b;
  centres = delete_where (is_centre_in game) t.centres ++ centre_rows m game b;
}

-- no two units and no two owned centres agree on their key
abbrev pub BoardsDiffer : Tables → Type 0
BoardsDiffer t = Differ same_unit t.units × Differ same_centre t.centres
