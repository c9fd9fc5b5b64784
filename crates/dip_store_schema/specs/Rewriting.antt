-- Tables while those of version 1 are made those of version 2.
use Rattle.std.specs.Prelude.{◌≡◌, ℕ, pos}
use Rattle.sqlite.specs.Edit.{next_rowid}
use Rattle.sqlite.specs.Effect.{Database}
use Rattle.dip_store_tables.specs.Tables.{Tables}
use Rattle.dip_store_sql.specs.Old.{HasNine, old_tables_of}
use Rattle.dip_store_schema.specs.Making.{HasTables}

-- over the eight tables of a database that of ballots was made; the rows of the master and of the seats are as they were
pub record HasBallotsOver (old : Database) (db : Database) : Type 0 where
  pub has : HasNine (old_tables_of old.trees) db
  pub desk : db.trees 0 ≡ old.trees 0
  pub seats : db.trees 4 ≡ old.trees 4

-- a database of our schema with these tables, in which those rows are still as they were
pub record Stands (old : Database) (t : Tables) (db : Database) : Type 0 where
  pub has : HasTables t db
  pub desk : db.trees 0 ≡ old.trees 0
  pub seats : db.trees 4 ≡ old.trees 4

-- such a database, in which the next row of a tree has this number
abbrev pub StandsAt : ℕ → ℕ → Database → Tables → Database → Type 0
StandsAt tree n old t db = Stands old t db × (next_rowid (db.trees tree) ≡ pos n)

-- and the master's row alone is still as it was
abbrev pub HasDeskOf : Database → Tables → Database → Type 0
HasDeskOf old t db = HasTables t db × (db.trees 0 ≡ old.trees 0)
