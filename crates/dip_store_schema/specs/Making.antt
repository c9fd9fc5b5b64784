-- Tables made in a transaction.
use Rattle.std.specs.Prelude.{◌≡◌, ◌≤◌, IsTrue, None, ℕ, take, Result, OnOk, IfErr}
use Rattle.sqlite.specs.declared.error.Error.{Error}
use Rattle.sqlite.specs.Effect.{Database}
use Rattle.sqlite.specs.State.{State, HasCleanDisk, KeepsCommit, Survives}
use Rattle.dip_store_sql.specs.Causes.{Faulted, IsCaused}
use Rattle.dip_store_sql.specs.NewTables.{IsBare}
use Rattle.dip_store_sql.specs.Schema.{our_schema}
use Rattle.dip_store_sql.specs.Creating.{no_schema, schema_with}
use Rattle.dip_store_tables.specs.Tables.{Tables}
use Rattle.dip_store_sql.specs.Rows.{tables_of}
use Rattle.dip_store_sql.specs.Good.{IsGood}

-- a database that was such becomes so, and a transaction goes on
pub record Becomes (Such So : Database → Type 0) (old new : State) : Type 0 where
  pub inside : IsTrue old.in_transaction → IsTrue new.in_transaction
  pub now : Such old.now → So new.now

-- a part of a transaction: it commits nothing; where it succeeds a database that was such becomes so
pub record Leads {X E : Type 0} (Such So : Database → Type 0) (old new : State) (r : Result X E)
    : Type 0 where
  pub survives : Survives old new (λ _. ⊥)
  pub keeps : HasCleanDisk new → KeepsCommit old new
  pub runs : HasCleanDisk new → OnOk r (Becomes Such So old new)

-- a transaction is open on a database that is such, without a limit on steps
pub record IsSet (Such : Database → Type 0) (s : State) : Type 0 where
  pub inside : IsTrue s.in_transaction
  pub up : IsTrue s.is_open
  pub unlimited : s.step_limit ≡ None
  pub now : Such s.now

-- a part of a transaction on a database that is such: it fails for want of memory, or by the disk where the store told of a fault, and for
-- nothing else; where it goes well, the transaction goes on, and the database is so
pub record Tries {X : Type 0} (Such So : Database → Type 0) (old new : State) (r : Result X Error)
    : Type 0 where
  pub clean : HasCleanDisk new → HasCleanDisk old
  pub counts : old.faults ≤ new.faults
  pub ready : HasCleanDisk new → IsSet Such old → OnOk r (IsSet So new)
  pub fails : HasCleanDisk new → IsSet Such old → IfErr r (IsCaused (Faulted old new))

-- so many of our tables are made, the first ones, and nothing else; none has a row
abbrev pub HasFirst : ℕ → Database → Type 0
HasFirst n = IsBare (schema_with (take n our_schema.tables) no_schema)

-- a database of our schema with these tables
abbrev pub HasTables : Tables → Database → Type 0
HasTables t db = IsGood db × (tables_of db.trees ≡ t)
