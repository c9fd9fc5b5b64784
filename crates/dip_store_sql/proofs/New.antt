-- The tables of a new database, and of a new desk.
use Rattle.std.proofs.Common.{◌≡◌, ℕ, List, [], map, sym, subst, refl}
use Rattle.sqlite.specs.Order.{Row}
use Rattle.sqlite.specs.Effect.{Database, IsDatabase}
use Rattle.dip_store_sql.specs.NewTables.{IsBare}
use Rattle.dip_store_sql.specs.Recorded.{IsRising}
use Rattle.dip_store_sql.specs.Schema.{our_schema}
use Rattle.dip_store_rows.specs.Made.{new_tables}
use Rattle.dip_store_sql.specs.Rows.{tables_of, put_desk, take_desk, put_game, take_game, put_seat, take_seat, put_unit, take_unit, put_centre, take_centre, put_pending, take_pending, put_box, take_box, put_paper, take_paper, put_ballot, take_ballot, put_choice, take_choice}
use Rattle.dip_store_sql.specs.Good.{IsGood}
use Rattle.dip_store_sql.specs.TablesAfter.{no_tables, with_desk, new_desk}

pub no_rows : {A : Type 0} (put : A → Row) (take : Row → A) (rows : List Row) → rows ≡ [] → IsRising put take rows
no_rows put take rows none = subst (IsRising put take) (sym none) (record { typed = tt; rising = tt })

-- a database of our schema without a row has no records
pub bare_good : (db : Database) → IsBare our_schema db → IsDatabase db → IsGood db × (tables_of db.trees ≡ no_tables)
bare_good db bare sound =
    let desk : db.trees 0 ≡ [] = bare.empty.0 in
    let games : db.trees 2 ≡ [] = bare.empty.1.0 in
    let seats : db.trees 4 ≡ [] = bare.empty.1.1.0 in
    let units : db.trees 6 ≡ [] = bare.empty.1.1.1.0 in
    let centres : db.trees 8 ≡ [] = bare.empty.1.1.1.1.0 in
    let pending : db.trees 10 ≡ [] = bare.empty.1.1.1.1.1.0 in
    let boxes : db.trees 12 ≡ [] = bare.empty.1.1.1.1.1.1.0 in
    let papers : db.trees 14 ≡ [] = bare.empty.1.1.1.1.1.1.1.0 in
    let ballots : db.trees 16 ≡ [] = bare.empty.1.1.1.1.1.1.1.1.0 in
    let choices : db.trees 18 ≡ [] = bare.empty.1.1.1.1.1.1.1.1.1.0 in (
      record {
        schema = bare.schema_is;
        sound = sound;
        desk = no_rows put_desk take_desk _ desk;
        games = no_rows put_game take_game _ games;
        seats = no_rows put_seat take_seat _ seats;
        units = no_rows put_unit take_unit _ units;
        centres = no_rows put_centre take_centre _ centres;
        pending = no_rows put_pending take_pending _ pending;
        boxes = no_rows put_box take_box _ boxes;
        papers = no_rows put_paper take_paper _ papers;
        ballots = no_rows put_ballot take_ballot _ ballots;
        choices = no_rows put_choice take_choice _ choices;
      },
      rw (desk, games, seats, units, centres, pending, boxes, papers, ballots, choices) refl,
    )

-- with the master's row they are those of a new desk
pub first_tables : (map digest : List ℕ) → with_desk (new_desk map digest) no_tables ≡ new_tables map digest
first_tables map digest = refl
