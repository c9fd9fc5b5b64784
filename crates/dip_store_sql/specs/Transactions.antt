-- Parts of a transaction: what they do to the tables, and that they fail for want alone.
use Rattle.std.specs.Prelude.{◌≡◌, IsTrue, None, Result, OnOk, IfErr}
use Rattle.sqlite.specs.declared.error.Error.{Error}
use Rattle.sqlite.specs.State.{State, HasCleanDisk}
use Rattle.dip_store_rows.specs.Tables.{Tables}
use Rattle.dip_store_sql.specs.Calls.{Writes}
use Rattle.dip_store_sql.specs.Causes.{Faulted, IsCaused}
use Rattle.dip_store_sql.specs.Good.{IsGood}
use Rattle.dip_store_sql.specs.Rows.{tables_of}
use Rattle.dip_store_sql.specs.Refusals.{IsBlamed, IsWant}

-- a transaction is open on tables that a desk wrote, without a limit on steps
pub record IsReady (s : State) : Type 0 where
  pub inside : IsTrue s.in_transaction
  pub up : IsTrue s.is_open
  pub unlimited : s.step_limit ≡ None
  pub good : IsGood s.now

-- whatever the tables are
abbrev pub always : Tables → Type 0
always t = Unit {0}

-- a part of a transaction does this to the tables, and where it goes well the transaction goes on; where the tables after it are to be such,
-- it fails for want alone, and whatever they are, it tells of the disk only where the store did
pub record Does {X : Type 0} (change : Tables → Tables) (Keep : Tables → Type 0) (old new : State) (r : Result X Error) : Type 0 where
  pub writes : Writes change old new r
  pub ready : HasCleanDisk new → IsReady old → OnOk r (IsReady new)
  pub fails : HasCleanDisk new → IsReady old → Keep (change (tables_of old.now.trees)) → IfErr r (IsWant (Faulted old new))
  pub blames : HasCleanDisk new → IsReady old → IfErr r (IsBlamed (Faulted old new))

-- where the tables are such, the part fails for want of memory, or by the disk where the store told of a fault, and for nothing else
abbrev pub FailsOutside : {X : Type 0} → (Tables → Type 0) → State → State → Result X Error → Type 0
FailsOutside Such old new r =
    HasCleanDisk new → IsReady old → Such (tables_of old.now.trees) → IfErr r (IsCaused (Faulted old new))
