-- How a store is checked before it is opened, of whatever version its tables are.
use Rattle.std.specs.Prelude.{◌≡◌, ◌↔◌, ℕ, Bool, IfErr, IfOk, IfSome, IsErrOf, IsTrue, List, OnOk, Option, Result, option_map}
use Rattle.std.specs.List.{find}
use Rattle.sqlite.specs.Held.{Held, state}
use Rattle.sqlite.specs.Schema.{Schema}
use Rattle.sqlite.specs.Store.{Ghosts}
use Rattle.sqlite.specs.declared.error.Error.{Error}
use Rattle.dip_map.specs.Charts.{Chart}
use Rattle.dip_store_tables.specs.Tables.{Tables}
use Rattle.dip_store_sql.specs.RowFaults.{IsFromOutside}
use Rattle.dip_store_sql.specs.declared.row_faults.RowFault.{RowFault}
use Rattle.dip_store_sql.specs.Calls.{SelectsFrom, does_show, is_honest}
use Rattle.dip_store_sql.specs.Causes.{IsCaused, has_faulted}
use Rattle.dip_store_sql.specs.TablesAfter.{is_first}
use Rattle.dip_store_schema.specs.Alone.{LeavesAlone}
use Rattle.dip_store_schema.specs.Desk.{DeskSays, IsMarked, columns_of}
use Rattle.dip_store_schema.specs.Refusing.{IsOutage, IsRefusedAs}
use Rattle.dip_store_schema.specs.declared.desk_row.DeskColumns.{DeskColumns}
use Rattle.dip_store_schema.specs.declared.faults.StoreFault.{StoreFault}
use Rattle.dip_store_schema.specs.declared.faults.StoreFault.TheVariants.{Disk, OtherMap}

-- how it is found whether a schema knows such tables, as this one does: no row is read
pub record Knows {S : Type 0} (g : Ghosts S) (Known : Schema → Type 0) (own : Schema)
    (Kept : Held S → Type 0) (old new : Held S) (result : Result Bool Error) : Type 0 where
  pub answer : is_honest g new → IfOk result (λ b. IsTrue b ↔ Known (state g old).now.schema)
  pub ours : is_honest g new → (state g old).now.schema ≡ own → IfOk result IsTrue
  pub selects : SelectsFrom Kept g old new result
  pub alone : LeavesAlone g old new result
  pub shown : is_honest g new → OnOk result (IsTrue (state g new).is_open)
  pub outside : is_honest g new → IsTrue (state g old).is_open
      → IfErr result (IsCaused (has_faulted g old new))

-- how the master's row is read, of tables that are kept so
pub record ReadsDesk {S : Type 0} (g : Ghosts S) (Kept : Held S → Type 0)
    (Ours : Chart → Tables → Type 0) (tables : Held S → Tables) (old new : Held S)
    (result : Result (Option DeskColumns) RowFault) : Type 0 where
  pub value : Kept old → is_honest g new
      → IfOk result (λ o. o ≡ option_map columns_of (find is_first (tables old).desk))
  pub selects : SelectsFrom Kept g old new result
  pub own : Kept old → does_show g old → is_honest g new → (m : Chart) → Ours m (tables old)
      → IfSome (find is_first (tables old).desk) IsMarked
      → IfErr result (IsFromOutside (has_faulted g old new))

-- how it is checked that the tables are there
pub record ChecksTables {S : Type 0} (g : Ghosts S) (Known : Schema → Type 0) (own : Schema)
    (Kept : Held S → Type 0) (old new : Held S) (result : Result (Unit {0}) StoreFault)
    : Type 0 where
  pub shown : is_honest g new → OnOk result (does_show g old)
  pub known : is_honest g new → OnOk result (Known (state g old).now.schema)
  pub ours : is_honest g new → (state g old).now.schema ≡ own → IfErr result IsOutage
  pub open_still : is_honest g new → OnOk result (does_show g new)
  pub caused : is_honest g new → does_show g old → IsErrOf result Disk → has_faulted g old new
  pub tables_alone : IfErr result (λ f. f ≡ OtherMap → ⊥)
  pub selects : SelectsFrom Kept g old new result

-- how it is checked that there is a master's row, of this version and with this map
pub record ChecksRow {S : Type 0} (g : Ghosts S) (Kept : Held S → Type 0)
    (Ours : Chart → Tables → Type 0) (tables : Held S → Tables) (version : ℕ) (map_sum : List ℕ)
    (old new : Held S) (result : Result (Unit {0}) StoreFault) : Type 0 where
  pub says : Kept old → is_honest g new → OnOk result (DeskSays version map_sum (tables old))
  pub refused : Kept old → does_show g old → is_honest g new → (m : Chart) → Ours m (tables old)
      → IfErr result (IsRefusedAs version map_sum (find is_first (tables old).desk))
  pub selects : SelectsFrom Kept g old new result

-- how it is checked that a store has a desk's tables of this version, made with this map
pub record ChecksDesk {S : Type 0} (g : Ghosts S) (Known : Schema → Type 0) (own : Schema)
    (Kept : Held S → Type 0) (Ours : Chart → Tables → Type 0) (tables : Held S → Tables)
    (version : ℕ) (map_sum : List ℕ) (old new : Held S) (result : Result (Unit {0}) StoreFault)
    : Type 0 where
  pub says : Kept old → is_honest g new → OnOk result (DeskSays version map_sum (tables old))
  pub shown : is_honest g new → OnOk result (does_show g old)
  pub known : is_honest g new → OnOk result (Known (state g old).now.schema)
  pub known_first : is_honest g new
      → IfErr result (λ f. f ≡ OtherMap → Known (state g old).now.schema)
  pub refused : (does_show g old → Kept old) → is_honest g new
      → (state g old).now.schema ≡ own → (m : Chart) → Ours m (tables old)
      → IfErr result (IsRefusedAs version map_sum (find is_first (tables old).desk))
  -- whatever the store has, the disk is told of only where it told of a fault of it
  pub caused : is_honest g new → does_show g old → IsErrOf result Disk → has_faulted g old new
  pub selects : SelectsFrom Kept g old new result
