-- What an edit of one table leaves of the others.
use Rattle.std.proofs.Common.{◌≡◌, ◌≢◌, ◌==◌, ℕ, false, List, map, sym, ap, subst, refl}
use Rattle.std.specs.List.{AllByRecursion}
use Rattle.std.proofs.lemmas.Bool.{eqb-false}
use Rattle.sqlite.specs.Edit.{Edit}
use Rattle.sqlite.specs.Effect.{Database}
use Rattle.sqlite.specs.Order.{Row}
use Rattle.sqlite.specs.Table.{Table}
use Rattle.dip_store_sql.specs.Recorded.{IsRising}
use Rattle.dip_store_sql.specs.Writes.{Edits}
use Rattle.dip_store_sql.specs.Schema.{our_schema, desk_table, game_table, seat_table, unit_table, centre_table, pending_table, box_table, paper_table, ballot_table, choice_table}
use Rattle.dip_store_rows.specs.Tables.{UnitRow, CentreRow}
use Rattle.dip_store_rows.specs.Tables.{DeskRow, GameRow, SeatRow, PendingRow, BoxRow, PaperRow, BallotRow, ChoiceRow, Tables}
use Rattle.dip_store_sql.specs.Rows.{tables_of, put_desk, take_desk, put_game, take_game, put_seat, take_seat, put_unit, take_unit, put_centre, take_centre, put_pending, take_pending, put_box, take_box, put_paper, take_paper, put_ballot, take_ballot, put_choice, take_choice}
use Rattle.dip_store_sql.specs.Good.{IsGood}

-- a tree's rows are these records
abbrev Has : {A : Type 0} → (A → Row) → (Row → A) → Database → ℕ → List A → Type 0
Has put take db tree xs = IsRising put take (db.trees tree) × (map take (db.trees tree) ≡ xs)

-- the trees have the records of before, but one of them
record Stay (new : Database) (t : Tables) (but : ℕ) : Type 0 where
  desk : (0 == but) ≡ false → Has put_desk take_desk new 0 t.desk
  games : (2 == but) ≡ false → Has put_game take_game new 2 t.games
  seats : (4 == but) ≡ false → Has put_seat take_seat new 4 t.seats
  units : (6 == but) ≡ false → Has put_unit take_unit new 6 t.units
  centres : (8 == but) ≡ false → Has put_centre take_centre new 8 t.centres
  pending : (10 == but) ≡ false → Has put_pending take_pending new 10 t.pending
  boxes : (12 == but) ≡ false → Has put_box take_box new 12 t.boxes
  papers : (14 == but) ≡ false → Has put_paper take_paper new 14 t.papers
  ballots : (16 == but) ≡ false → Has put_ballot take_ballot new 16 t.ballots
  choices : (18 == but) ≡ false → Has put_choice take_choice new 18 t.choices

module _ (old new : Database) (good : IsGood old) (e : Edit) (done : Edits our_schema e old new) where
  others : (table : Table) → e.table ≡ table → AllByRecursion (λ (u : Table). u.tree ≢ table.tree → new.trees u.tree ≡ old.trees u.tree) our_schema.tables
  others table is = subst (λ (t : Table). AllByRecursion (λ (u : Table). u.tree ≢ t.tree → new.trees u.tree ≡ old.trees u.tree) our_schema.tables) is done.applies.tables

  kept : {A : Type 0} (put : A → Row) (take : Row → A) (tree : ℕ) → IsRising put take (old.trees tree) → new.trees tree ≡ old.trees tree → Has put take new tree (map take (old.trees tree))
  kept put take tree rising same = (subst (IsRising put take) (sym same) rising, ap (map take) same)

  stay : (table : Table) → e.table ≡ table → Stay new (tables_of old.trees) table.tree
  stay table is =
      let all = others table is in
      record {
        desk = λ off. kept put_desk take_desk 0 good.desk (all.0 (eqb-false _ _ off));
        games = λ off. kept put_game take_game 2 good.games (all.1.0 (eqb-false _ _ off));
        seats = λ off. kept put_seat take_seat 4 good.seats (all.1.1.0 (eqb-false _ _ off));
        units = λ off. kept put_unit take_unit 6 good.units (all.1.1.1.0 (eqb-false _ _ off));
        centres = λ off. kept put_centre take_centre 8 good.centres (all.1.1.1.1.0 (eqb-false _ _ off));
        pending = λ off. kept put_pending take_pending 10 good.pending (all.1.1.1.1.1.0 (eqb-false _ _ off));
        boxes = λ off. kept put_box take_box 12 good.boxes (all.1.1.1.1.1.1.0 (eqb-false _ _ off));
        papers = λ off. kept put_paper take_paper 14 good.papers (all.1.1.1.1.1.1.1.0 (eqb-false _ _ off));
        ballots = λ off. kept put_ballot take_ballot 16 good.ballots (all.1.1.1.1.1.1.1.1.0 (eqb-false _ _ off));
        choices = λ off. kept put_choice take_choice 18 good.choices (all.1.1.1.1.1.1.1.1.1.0 (eqb-false _ _ off));
      }

  -- all ten trees, and so the tables
  turned : (t : Tables) → Has put_desk take_desk new 0 t.desk → Has put_game take_game new 2 t.games → Has put_seat take_seat new 4 t.seats → Has put_unit take_unit new 6 t.units → Has put_centre take_centre new 8 t.centres
      → Has put_pending take_pending new 10 t.pending → Has put_box take_box new 12 t.boxes → Has put_paper take_paper new 14 t.papers → Has put_ballot take_ballot new 16 t.ballots → Has put_choice take_choice new 18 t.choices
      → IsGood new × (tables_of new.trees ≡ t)
  turned t desk games seats units centres pending boxes papers ballots choices = (
    record { schema = done.schema_is; sound = done.sound; desk = desk.0; games = games.0; seats = seats.0; units = units.0; centres = centres.0; pending = pending.0; boxes = boxes.0; papers = papers.0; ballots = ballots.0; choices = choices.0 },
    rw (desk.1, games.1, seats.1, units.1, centres.1, pending.1, boxes.1, papers.1, ballots.1, choices.1) refl,
  )

  pub desk_turned : (rows : List DeskRow) → e.table ≡ desk_table → Has put_desk take_desk new 0 rows → IsGood new × (tables_of new.trees ≡ record (tables_of old.trees) { desk = rows })
  desk_turned rows is it = let s = stay desk_table is in turned (record (tables_of old.trees) { desk = rows }) it (s.games refl) (s.seats refl) (s.units refl) (s.centres refl) (s.pending refl) (s.boxes refl) (s.papers refl) (s.ballots refl) (s.choices refl)

  pub game_turned : (rows : List GameRow) → e.table ≡ game_table → Has put_game take_game new 2 rows → IsGood new × (tables_of new.trees ≡ record (tables_of old.trees) { games = rows })
  game_turned rows is it = let s = stay game_table is in turned (record (tables_of old.trees) { games = rows }) (s.desk refl) it (s.seats refl) (s.units refl) (s.centres refl) (s.pending refl) (s.boxes refl) (s.papers refl) (s.ballots refl) (s.choices refl)

  pub seat_turned : (rows : List SeatRow) → e.table ≡ seat_table → Has put_seat take_seat new 4 rows → IsGood new × (tables_of new.trees ≡ record (tables_of old.trees) { seats = rows })
  seat_turned rows is it = let s = stay seat_table is in turned (record (tables_of old.trees) { seats = rows }) (s.desk refl) (s.games refl) it (s.units refl) (s.centres refl) (s.pending refl) (s.boxes refl) (s.papers refl) (s.ballots refl) (s.choices refl)

  pub unit_turned : (rows : List UnitRow) → e.table ≡ unit_table → Has put_unit take_unit new 6 rows → IsGood new × (tables_of new.trees ≡ record (tables_of old.trees) { units = rows })
  unit_turned rows is it = let s = stay unit_table is in turned (record (tables_of old.trees) { units = rows }) (s.desk refl) (s.games refl) (s.seats refl) it (s.centres refl) (s.pending refl) (s.boxes refl) (s.papers refl) (s.ballots refl) (s.choices refl)

  pub centre_turned : (rows : List CentreRow) → e.table ≡ centre_table → Has put_centre take_centre new 8 rows → IsGood new × (tables_of new.trees ≡ record (tables_of old.trees) { centres = rows })
  centre_turned rows is it = let s = stay centre_table is in turned (record (tables_of old.trees) { centres = rows }) (s.desk refl) (s.games refl) (s.seats refl) (s.units refl) it (s.pending refl) (s.boxes refl) (s.papers refl) (s.ballots refl) (s.choices refl)

  pub pending_turned : (rows : List PendingRow) → e.table ≡ pending_table → Has put_pending take_pending new 10 rows → IsGood new × (tables_of new.trees ≡ record (tables_of old.trees) { pending = rows })
  pending_turned rows is it = let s = stay pending_table is in turned (record (tables_of old.trees) { pending = rows }) (s.desk refl) (s.games refl) (s.seats refl) (s.units refl) (s.centres refl) it (s.boxes refl) (s.papers refl) (s.ballots refl) (s.choices refl)

  pub box_turned : (rows : List BoxRow) → e.table ≡ box_table → Has put_box take_box new 12 rows → IsGood new × (tables_of new.trees ≡ record (tables_of old.trees) { boxes = rows })
  box_turned rows is it = let s = stay box_table is in turned (record (tables_of old.trees) { boxes = rows }) (s.desk refl) (s.games refl) (s.seats refl) (s.units refl) (s.centres refl) (s.pending refl) it (s.papers refl) (s.ballots refl) (s.choices refl)

  pub paper_turned : (rows : List PaperRow) → e.table ≡ paper_table → Has put_paper take_paper new 14 rows → IsGood new × (tables_of new.trees ≡ record (tables_of old.trees) { papers = rows })
  paper_turned rows is it = let s = stay paper_table is in turned (record (tables_of old.trees) { papers = rows }) (s.desk refl) (s.games refl) (s.seats refl) (s.units refl) (s.centres refl) (s.pending refl) (s.boxes refl) it (s.ballots refl) (s.choices refl)

  pub ballot_turned : (rows : List BallotRow) → e.table ≡ ballot_table → Has put_ballot take_ballot new 16 rows → IsGood new × (tables_of new.trees ≡ record (tables_of old.trees) { ballots = rows })
  ballot_turned rows is it = let s = stay ballot_table is in turned (record (tables_of old.trees) { ballots = rows }) (s.desk refl) (s.games refl) (s.seats refl) (s.units refl) (s.centres refl) (s.pending refl) (s.boxes refl) (s.papers refl) it (s.choices refl)

  pub choice_turned : (rows : List ChoiceRow) → e.table ≡ choice_table → Has put_choice take_choice new 18 rows → IsGood new × (tables_of new.trees ≡ record (tables_of old.trees) { choices = rows })
  choice_turned rows is it = let s = stay choice_table is in turned (record (tables_of old.trees) { choices = rows }) (s.desk refl) (s.games refl) (s.seats refl) (s.units refl) (s.centres refl) (s.pending refl) (s.boxes refl) (s.papers refl) (s.ballots refl) it
