-- Databases whose rows are our records.
use Rattle.std.specs.Prelude.{◌≡◌}
use Rattle.sqlite.specs.Effect.{Database, IsDatabase}
use Rattle.dip_store_sql.specs.Recorded.{IsRising}
use Rattle.dip_store_sql.specs.Schema.{our_schema}
use Rattle.dip_store_sql.specs.Rows.{put_desk, take_desk, put_game, take_game, put_seat, take_seat, put_unit, take_unit, put_centre, take_centre, put_pending, take_pending, put_box, take_box, put_paper, take_paper, put_ballot, take_ballot, put_choice, take_choice}

-- the database has our schema, and each row is a record as it is put into columns
pub record IsGood (db : Database) : Type 0 where
  pub schema : db.schema ≡ our_schema
  pub sound : IsDatabase db
  pub desk : IsRising put_desk take_desk (db.trees 0)
  pub games : IsRising put_game take_game (db.trees 2)
  pub seats : IsRising put_seat take_seat (db.trees 4)
  pub units : IsRising put_unit take_unit (db.trees 6)
  pub centres : IsRising put_centre take_centre (db.trees 8)
  pub pending : IsRising put_pending take_pending (db.trees 10)
  pub boxes : IsRising put_box take_box (db.trees 12)
  pub papers : IsRising put_paper take_paper (db.trees 14)
  pub ballots : IsRising put_ballot take_ballot (db.trees 16)
  pub choices : IsRising put_choice take_choice (db.trees 18)
