-- Databases of version 1, whose rows are our records, and what a transaction makes of one before all ten tables are there.
use Rattle.std.specs.Prelude.{◌≡◌, [], take}
use Rattle.sqlite.specs.Tree.{Trees}
use Rattle.sqlite.specs.Schema.{Schema}
use Rattle.sqlite.specs.Effect.{Database, IsDatabase}
use Rattle.dip_store_rows.specs.Tables.{Tables}
use Rattle.dip_store_sql.specs.Creating.{no_schema, schema_with}
use Rattle.dip_store_sql.specs.Recorded.{IsRising}
use Rattle.dip_store_sql.specs.Schema.{our_schema}
use Rattle.dip_store_sql.specs.Rows.{tables_of, put_desk, take_desk, put_game, take_game, put_seat, take_seat, put_unit, take_unit, put_centre, take_centre, put_pending, take_pending, put_box, take_box, put_paper, take_paper}

-- the first eight tables; and these with ballots
abbrev pub old_schema : Schema
old_schema = schema_with (take 8 our_schema.tables) no_schema

abbrev pub nine_schema : Schema
nine_schema = schema_with (take 9 our_schema.tables) no_schema

-- the database has the schema of version 1, and each row is a record as it is put into columns
pub record WasGood (db : Database) : Type 0 where
  pub schema : db.schema ≡ old_schema
  pub sound : IsDatabase db
  pub desk : IsRising put_desk take_desk (db.trees 0)
  pub games : IsRising put_game take_game (db.trees 2)
  pub seats : IsRising put_seat take_seat (db.trees 4)
  pub units : IsRising put_unit take_unit (db.trees 6)
  pub centres : IsRising put_centre take_centre (db.trees 8)
  pub pending : IsRising put_pending take_pending (db.trees 10)
  pub boxes : IsRising put_box take_box (db.trees 12)
  pub papers : IsRising put_paper take_paper (db.trees 14)

-- its tables: there are no ballots, and nothing was chosen
abbrev pub old_tables_of : Trees → Tables
old_tables_of db = record (tables_of db) { ballots = []; choices = [] }

-- a database of version 1 with these tables
abbrev pub HasOld : Tables → Database → Type 0
HasOld t db = WasGood db × (old_tables_of db.trees ≡ t)

-- a database of version 1 with these tables and with the table of ballots, which has no row
pub record HasNine (t : Tables) (db : Database) : Type 0 where
  pub schema : db.schema ≡ nine_schema
  pub sound : IsDatabase db
  pub desk : IsRising put_desk take_desk (db.trees 0)
  pub games : IsRising put_game take_game (db.trees 2)
  pub seats : IsRising put_seat take_seat (db.trees 4)
  pub units : IsRising put_unit take_unit (db.trees 6)
  pub centres : IsRising put_centre take_centre (db.trees 8)
  pub pending : IsRising put_pending take_pending (db.trees 10)
  pub boxes : IsRising put_box take_box (db.trees 12)
  pub papers : IsRising put_paper take_paper (db.trees 14)
  pub empty : db.trees 16 ≡ []
  pub tables : old_tables_of db.trees ≡ t
