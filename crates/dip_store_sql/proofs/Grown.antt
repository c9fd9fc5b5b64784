-- The two tables of version 2, made over the rows of version 1.
use Rattle.std.proofs.Common.{◌≡◌, ℕ, List, [], Ok, Err, IsTrue, refl, sym, subst, ◌∙◌}
use Rattle.sqlite.specs.Order.{Row}
use Rattle.sqlite.specs.State.{State, Executes, ExecutesInside}
use Rattle.sqlite.specs.declared.error.Error.{Error}
use Rattle.dip_store_rows.specs.Tables.{Tables}
use Rattle.dip_store_sql.specs.Causes.{Faulted, IsCaused}
use Rattle.dip_store_sql.specs.Creating.{create_ballot, create_choice}
use Rattle.dip_store_sql.specs.Good.{IsGood}
use Rattle.dip_store_sql.specs.Old.{HasNine, HasOld, nine_schema, old_schema}
use Rattle.dip_store_sql.specs.Recorded.{IsRising}
use Rattle.dip_store_sql.specs.Rows.{tables_of, put_desk, take_desk, put_game, take_game, put_seat, take_seat, put_unit, take_unit, put_centre, take_centre, put_pending, take_pending, put_box, take_box, put_paper, take_paper, put_ballot, take_ballot, put_choice, take_choice}
use Rattle.dip_store_sql.specs.Schema.{ballot_table, choice_table}
use Rattle.dip_store_sql.proofs.Created.{all_made, ballot_makes, choice_makes}
use Rattle.dip_store_sql.proofs.Creating.{table_more}
use Rattle.dip_store_sql.proofs.Defined.{ballot_defined, choice_defined}
use Rattle.dip_store_sql.proofs.Founded.{ballot_caused, choice_caused}
use Rattle.dip_store_sql.proofs.New.{no_rows}

-- rows that are as they were are records as they were
still : {A : Type 0} (put : A → Row) (take : Row → A) {old new : List Row} → new ≡ old → IsRising put take old → IsRising put take new
still put take same it = subst (IsRising put take) (sym same) it

-- a table of ballots, over the eight of version 1
pub ballot_over : (t : Tables) (old new : State) (count : ℕ) → HasOld t old.now → Executes create_ballot [] old new (Ok count) → HasNine t new.now
ballot_over t old new count has h =
    let more = table_more old_schema create_ballot (record ballot_table { tree = 0 }) ballot_makes.0 ballot_makes.1 ballot_makes.2 ballot_defined refl old new count has.0.schema h in
    let desk : new.now.trees 0 ≡ old.now.trees 0 = more.2.0 in
    let games : new.now.trees 2 ≡ old.now.trees 2 = more.2.1.0 in
    let seats : new.now.trees 4 ≡ old.now.trees 4 = more.2.1.1.0 in
    let units : new.now.trees 6 ≡ old.now.trees 6 = more.2.1.1.1.0 in
    let centres : new.now.trees 8 ≡ old.now.trees 8 = more.2.1.1.1.1.0 in
    let pending : new.now.trees 10 ≡ old.now.trees 10 = more.2.1.1.1.1.1.0 in
    let boxes : new.now.trees 12 ≡ old.now.trees 12 = more.2.1.1.1.1.1.1.0 in
    let papers : new.now.trees 14 ≡ old.now.trees 14 = more.2.1.1.1.1.1.1.1.0 in
    record {
      schema = more.0;
      sound = more.1;
      desk = still put_desk take_desk desk has.0.desk;
      games = still put_game take_game games has.0.games;
      seats = still put_seat take_seat seats has.0.seats;
      units = still put_unit take_unit units has.0.units;
      centres = still put_centre take_centre centres has.0.centres;
      pending = still put_pending take_pending pending has.0.pending;
      boxes = still put_box take_box boxes has.0.boxes;
      papers = still put_paper take_paper papers has.0.papers;
      empty = more.3;
      tables = rw (desk, games, seats, units, centres, pending, boxes, papers) has.1;
    }

-- and one of what was chosen, over these nine: then all ten are there
pub choice_over : (t : Tables) (old new : State) (count : ℕ) → HasNine t old.now → Executes create_choice [] old new (Ok count) → IsGood new.now × (tables_of new.now.trees ≡ t)
choice_over t old new count has h =
    let more = table_more nine_schema create_choice (record choice_table { tree = 0 }) choice_makes.0 choice_makes.1 choice_makes.2 choice_defined refl old new count has.schema h in
    let desk : new.now.trees 0 ≡ old.now.trees 0 = more.2.0 in
    let games : new.now.trees 2 ≡ old.now.trees 2 = more.2.1.0 in
    let seats : new.now.trees 4 ≡ old.now.trees 4 = more.2.1.1.0 in
    let units : new.now.trees 6 ≡ old.now.trees 6 = more.2.1.1.1.0 in
    let centres : new.now.trees 8 ≡ old.now.trees 8 = more.2.1.1.1.1.0 in
    let pending : new.now.trees 10 ≡ old.now.trees 10 = more.2.1.1.1.1.1.0 in
    let boxes : new.now.trees 12 ≡ old.now.trees 12 = more.2.1.1.1.1.1.1.0 in
    let papers : new.now.trees 14 ≡ old.now.trees 14 = more.2.1.1.1.1.1.1.1.0 in
    let ballots : new.now.trees 16 ≡ [] = more.2.1.1.1.1.1.1.1.1.0 ∙ has.empty in
    let choices : new.now.trees 18 ≡ [] = more.3 in (
      record {
        schema = more.0 ∙ all_made;
        sound = more.1;
        desk = still put_desk take_desk desk has.desk;
        games = still put_game take_game games has.games;
        seats = still put_seat take_seat seats has.seats;
        units = still put_unit take_unit units has.units;
        centres = still put_centre take_centre centres has.centres;
        pending = still put_pending take_pending pending has.pending;
        boxes = still put_box take_box boxes has.boxes;
        papers = still put_paper take_paper papers has.papers;
        ballots = no_rows put_ballot take_ballot _ ballots;
        choices = no_rows put_choice take_choice _ choices;
      },
      rw (desk, games, seats, units, centres, pending, boxes, papers, ballots, choices) has.tables,
    )

-- each of the two fails for want of memory, or by the disk where the store told of a fault
pub ballot_over_caused : (t : Tables) (old new : State) → HasOld t old.now → IsTrue old.is_open → (e : Error) → ExecutesInside 0 create_ballot [] old new (Err e) → IsCaused (Faulted old new) e
ballot_over_caused t old new has up e h = ballot_caused old new has.0.schema up e h

pub choice_over_caused : (t : Tables) (old new : State) → HasNine t old.now → IsTrue old.is_open → (e : Error) → ExecutesInside 0 create_choice [] old new (Err e) → IsCaused (Faulted old new) e
choice_over_caused t old new has up e h = choice_caused old new has.schema up e h
