-- What a seat's standing orders make of the tables.
use Rattle.std.specs.Prelude.{ℕ, Bool, List, map, if◌then◌else◌}
use Rattle.dip_map.specs.Charts.{Chart}
use Rattle.dip_desk_state.specs.Records.{Standing}
use Rattle.dip_store_tables.specs.Lists.{delete_where}
use Rattle.dip_store_tables.specs.Tables.{Tables, is_pending}
use Rattle.dip_store_tables.specs.Writing.{pending_row}
use Rattle.dip_store_sql.specs.TablesAfter.{more_orders}

-- a seat's standing orders are taken out, where it isn't known that there are none
abbrev pub orders_left : Bool → List ℕ → List ℕ → Tables → Tables
orders_left none name power t = record t { pending = if none then t.pending else delete_where (is_pending name power) t.pending }

-- a seat's standing orders are these; where none stood, none is taken out
abbrev pub with_orders_over : Bool → Chart → List ℕ → List ℕ → List Standing → Tables → Tables
with_orders_over none m name power orders t = more_orders (map (pending_row m name power) orders) (orders_left none name power t)
