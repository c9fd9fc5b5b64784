-- What the calls of statements leave.
use Rattle.std.specs.Prelude.{◌≡◌, ◌≤◌, ◌⊎◌, false, IfErr, IfOk, IsTrue, None, OnOk, Option, Result}
use Rattle.sqlite.specs.Tree.{Trees}
use Rattle.sqlite.specs.Effect.{Database}
use Rattle.sqlite.specs.Store.{Ghosts}
use Rattle.sqlite.specs.Held.{Held, state}
use Rattle.sqlite.specs.Order.{Row}
use Rattle.sqlite.specs.State.{State, HasCleanDisk, Survives, KeepsCommit}
use Rattle.sqlite.specs.declared.error.Error.{Error}
use Rattle.dip_store_rows.specs.Tables.{Tables}
use Rattle.dip_store_rows.specs.Counted.{AreCounted}
use Rattle.dip_store_sql.specs.Rows.{tables_of}
use Rattle.dip_store_sql.specs.Good.{IsGood}
use Rattle.dip_store_sql.specs.Old.{WasGood, old_tables_of}
use Rattle.dip_store_sql.specs.Causes.{IsCaused, has_faulted}

-- the tables become these, and a transaction goes on
pub record Turns (f : Tables → Tables) (old new : State) : Type 0 where
  pub inside : IsTrue old.in_transaction → IsTrue new.in_transaction
  pub good : IsGood old.now → IsGood new.now × (tables_of new.now.trees ≡ f (tables_of old.now.trees))

-- a part of a transaction: it commits nothing, and where it succeeds the tables become these
pub record Writes {X E : Type 0} (f : Tables → Tables) (old new : State) (r : Result X E)
    : Type 0 where
  pub survives : Survives old new (λ _. ⊥)
  pub keeps : HasCleanDisk new → KeepsCommit old new
  pub runs : HasCleanDisk new → OnOk r (Turns f old new)

-- the trees of a database whose tables became these
abbrev pub Lands : (Tables → Tables) → State → Trees → Type 0
Lands f old trees =
    (db : Database) × (IsGood old.now → IsGood db × (tables_of db.trees ≡ f (tables_of old.now.trees)))
    × (trees ≡ db.trees)

module _ {S : Type 0} (g : Ghosts S) (h : Held S) where
  -- so far the disk has returned what was written; and the connection is open too
  abbrev pub is_honest : Type 0
  is_honest = HasCleanDisk (state g h)

  abbrev pub does_show : Type 0
  does_show = HasCleanDisk (state g h) × IsTrue (state g h).is_open

  abbrev pub tables_in : Tables
  tables_in = tables_of (state g h).now.trees

  -- tables that a keeper has written, all of it committed
  pub record IsKept : Type 0 where
    pub good : IsGood (state g h).now
    pub counted : AreCounted (tables_of (state g h).now.trees)
    pub idle : (state g h).in_transaction ≡ false
    pub settled : (state g h).now ≡ (state g h).committed
    pub unlimited : h.step_limit ≡ None

  -- tables of our schema, all of it committed, whether or not papers and items are numbered
  pub record IsLaid : Type 0 where
    pub good : IsGood (state g h).now
    pub idle : (state g h).in_transaction ≡ false
    pub settled : (state g h).now ≡ (state g h).committed
    pub unlimited : h.step_limit ≡ None

  -- rows that a keeper of version 1 has written, all of them committed; and its tables
  pub record WasKept : Type 0 where
    pub good : WasGood (state g h).now
    pub idle : (state g h).in_transaction ≡ false
    pub settled : (state g h).now ≡ (state g h).committed
    pub unlimited : h.step_limit ≡ None

  abbrev pub old_tables_in : Tables
  old_tables_in = old_tables_of (state g h).now.trees

-- a call that reads what is kept so: it changes nothing, and where it succeeds the connection is open
pub record SelectsFrom {S X E : Type 0} (Kept : Held S → Type 0) (g : Ghosts S) (old new : Held S)
    (r : Result X E) : Type 0 where
  pub fair : is_honest g new → is_honest g old
  pub shown : does_show g new → does_show g old
  pub mode : old.in_transaction ≡ false → new.in_transaction ≡ false
  pub counts : (state g old).faults ≤ (state g new).faults
  pub kept : Kept old → does_show g new → Kept new
  pub same : Kept old → does_show g new → (state g new).now ≡ (state g old).now
  pub ok : Kept old → is_honest g new → OnOk r (does_show g new)
  -- only a fault of the disk shuts the connection
  pub closes : is_honest g new → does_show g old → does_show g new ⊎ has_faulted g old new
  pub left : Kept old → is_honest g new → (db : Trees) → (state g new).may_leave db → (state g old).may_leave db

-- what a keeper has written
abbrev pub Selects : {S X E : Type 0} → Ghosts S → Held S → Held S → Result X E → Type 0
Selects {S} {X} {E} g old new r = SelectsFrom {S = S} {X = X} {E = E} (IsKept g) g old new r

-- how a row is found, in tables that are kept so: the call fails for want of memory, or by the disk
-- where the store told of a fault of it
pub record FindsRow {S : Type 0} (g : Ghosts S) (Kept : Held S → Type 0)
    (row : Held S → Option Row) (old new : Held S) (result : Result (Option Row) Error)
    : Type 0 where
  pub value : Kept old → is_honest g new → IfOk result (λ o. o ≡ row old)
  pub selects : SelectsFrom Kept g old new result
  pub caused : Kept old → does_show g old → is_honest g new
      → IfErr result (IsCaused (has_faulted g old new))
