-- A desk's tables in a store that has none.
use Rattle.std.specs.Prelude.{◌≡◌, ℕ, List, None, false, IfErr, OnErr, OnOk, Result}
use Rattle.sqlite.specs.Tree.{Trees}
use Rattle.sqlite.specs.Effect.{Database}
use Rattle.sqlite.specs.Store.{Ghosts}
use Rattle.sqlite.specs.Held.{Held, state}
use Rattle.sqlite.specs.State.{State, Survives}
use Rattle.sqlite.specs.declared.error.Error.{Error}
use Rattle.dip_store_sql.specs.Creating.{no_schema}
use Rattle.dip_store_tables.specs.Tables.{Tables}
use Rattle.dip_store_sql.specs.Calls.{IsKept, does_show, is_honest, tables_in}
use Rattle.dip_store_sql.specs.Causes.{IsCaused, has_faulted}
use Rattle.dip_store_tables.specs.Writing.{new_tables}
use Rattle.dip_store_schema.specs.Making.{HasTables}

module _ {S : Type 0} (g : Ghosts S) (h : Held S) where
  -- the store is empty, and no statement is cut off
  pub record IsNewStore : Type 0 where
    pub empty : (state g h).now.schema ≡ no_schema
    pub unlimited : h.step_limit ≡ None

  -- a store with these tables, all of it committed
  pub record Keeps (t : Tables) : Type 0 where
    pub kept : IsKept g h
    pub tables : tables_in g h ≡ t

-- the trees of these tables, made in an empty store
abbrev pub Founds : Tables → State → Trees → Type 0
Founds t old trees =
    (db : Database) × (old.now.schema ≡ no_schema → HasTables t db) × (trees ≡ db.trees)

-- how a desk's tables are made in an empty store
pub record SetsUpTables {S : Type 0} (g : Ghosts S) (sum digest : List ℕ) (old new : Held S) (result : Result (Unit {0}) Error) : Type 0 where
  pub kept : IsNewStore g old → is_honest g new → OnOk result (Keeps g new (new_tables sum digest))
  pub ok : is_honest g new → OnOk result (does_show g new)
  pub shown : does_show g new → does_show g old
  pub idle : new.in_transaction ≡ false
  pub base : does_show g new → OnErr result ((state g new).committed ≡ (state g old).committed)
  pub err : does_show g new → OnErr result ((state g new).now ≡ (state g old).committed)
  pub fails : IsNewStore g old → does_show g old → is_honest g new → IfErr result (IsCaused (has_faulted g old new))
  pub crash : Survives (state g old) (state g new) (Founds (new_tables sum digest) (state g old))
