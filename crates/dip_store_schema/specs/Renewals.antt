-- How a store of version 1 is made one of version 2.
use Rattle.std.specs.Prelude.{◌≡◌, ◌≤◌, ◌⊎◌, ℕ, List, None, false, IfErr, IsErrOf, OnErr, OnOk, Result}
use Rattle.sqlite.specs.Held.{Held, state}
use Rattle.sqlite.specs.State.{Survives}
use Rattle.sqlite.specs.Store.{Ghosts}
use Rattle.sqlite.specs.Tree.{Trees}
use Rattle.sqlite.specs.declared.error.Error.{Error}
use Rattle.dip_map.specs.Charts.{Chart}
use Rattle.dip_store_tables.specs.Renewing.{WereOurs, renewed}
use Rattle.dip_store_sql.specs.Calls.{IsLaid, WasKept, does_show, is_honest, old_tables_in, tables_in}
use Rattle.dip_store_sql.specs.Causes.{IsCaused, has_faulted}
use Rattle.dip_store_sql.specs.Old.{WasGood}
use Rattle.dip_store_schema.specs.Founding.{Keeps}
use Rattle.dip_store_schema.specs.Refusing.{IsOutage}
use Rattle.dip_store_schema.specs.Renewing.{AreRead, Fills, HasRoomAnew, IsOldStore, Outgrows, Renews, filled}
use Rattle.dip_store_schema.specs.declared.faults.StoreFault.{StoreFault}
use Rattle.dip_store_schema.specs.declared.faults.StoreFault.TheVariants.{Disk}
use Rattle.dip_store_schema.specs.declared.old_rows.NewBallot.{NewBallot}

-- how a store of version 1 is made one of version 2
pub record RenewsStore {S : Type 0} (g : Ghosts S) (old new : Held S) (result : Result (Unit {0}) StoreFault) : Type 0 where
  pub kept : WasKept g old → (m : Chart) → IsOldStore m (state g old).now → is_honest g new → OnOk result (Keeps g new (renewed (old_tables_in g old)))
  pub own : WasKept g old → does_show g old → is_honest g new → (m : Chart) → WereOurs m (old_tables_in g old) → IfErr result IsOutage
  -- the disk is told of only where the store told of a fault of it, or a row is too long to be stored, or without a number
  pub caused : WasKept g old → does_show g old → is_honest g new → (m : Chart) → WereOurs m (old_tables_in g old) → IsErrOf result Disk → has_faulted g old new ⊎ Outgrows (state g old).now.trees
  pub ok : is_honest g new → OnOk result (does_show g new)
  pub fair : is_honest g new → is_honest g old
  pub shown : does_show g new → does_show g old
  pub counted : (state g old).faults ≤ (state g new).faults
  pub idle : new.in_transaction ≡ false
  pub base : WasKept g old → does_show g new → OnErr result ((state g new).committed ≡ (state g old).committed)
  pub still : WasKept g old → does_show g new → OnErr result ((state g new).now ≡ (state g old).now)
  pub closes : is_honest g new → does_show g old → does_show g new ⊎ has_faulted g old new
  pub left : WasKept g old → is_honest g new → (db : Trees) → (state g new).may_leave db → (state g old).may_leave db ⊎ Renews (old_tables_in g old) db

-- how the tables of version 2 are made and filled in a store of version 1
pub record FillsStore {S : Type 0} (g : Ghosts S) (games : List (List ℕ)) (ballots : List NewBallot) (old new : Held S)
    (result : Result (Unit {0}) Error) : Type 0 where
  pub laid : WasGood (state g old).now → old.step_limit ≡ None → is_honest g new → OnOk result (IsLaid g new × (tables_in g new ≡ filled games ballots (old_tables_in g old)))
  pub ok : is_honest g new → OnOk result (does_show g new)
  pub shown : does_show g new → does_show g old
  pub idle : new.in_transaction ≡ false
  pub base : does_show g new → OnErr result ((state g new).committed ≡ (state g old).committed)
  pub err : does_show g new → OnErr result ((state g new).now ≡ (state g old).committed)
  -- where each row can be stored, and has a number, it fails for want of memory, or by the disk where the store told of a fault of it
  pub fails : WasKept g old → does_show g old → is_honest g new → AreRead games ballots (old_tables_in g old) → HasRoomAnew (state g old).now.trees → IfErr result (IsCaused (has_faulted g old new))
  pub crash : Survives (state g old) (state g new) (Fills games ballots (state g old))
