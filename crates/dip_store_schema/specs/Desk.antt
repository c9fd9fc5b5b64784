-- What the master's row says to one who opens the store.
use Rattle.std.specs.Prelude.{◌≡◌, ◌<◌, ◌^◌, ℕ, List, length, Some}
use Rattle.std.specs.List.{find}
use Rattle.sqlite.specs.Order.{Row, column, bytes}
use Rattle.dip_store_tables.specs.Tables.{DeskRow, Tables}
use Rattle.dip_store_sql.specs.Rows.{number_in}
use Rattle.dip_store_sql.specs.TablesAfter.{is_first}
use Rattle.dip_store_schema.specs.declared.desk_row.DeskColumns.{DeskColumns}

-- of the master's row, and of that row as the query shows it
abbrev pub columns_of : DeskRow → DeskColumns
columns_of d = record { version = d.version; map_sum = d.map; digest = d.digest; last = d.last }

abbrev pub shown_columns : Row → DeskColumns
shown_columns r = record {
  version = number_in (column r 0);
  map_sum = bytes (column r 1);
  digest = bytes (column r 2);
  last = number_in (column r 3);
}

-- the version of the master's row has 32 bits, and its sum of a map 32 bytes
abbrev pub IsMarked : DeskRow → Type 0
IsMarked d = (d.version < 2 ^ 32) × (length d.map ≡ 32)

-- the master's row is of this version, and says this map
pub record DeskSays (version : ℕ) (map_sum : List ℕ) (t : Tables) : Type 0 where
  pub desk : DeskRow
  pub found : find is_first t.desk ≡ Some desk
  pub version_is : desk.version ≡ version
  pub map_is : desk.map ≡ map_sum
