-- Where the rows stand that a statement puts into a table, and that the other tables keep theirs.
use Rattle.std.proofs.Common.{◌≡◌, ℕ, [], ◌∷◌, ◌++◌, Ok, refl}
use Rattle.sqlite.specs.State.{State, Executes}
use Rattle.dip_store_rows.specs.Tables.{BallotRow, ChoiceRow}
use Rattle.dip_store_sql.specs.Asking.{by_first}
use Rattle.dip_store_sql.specs.Good.{IsGood}
use Rattle.dip_store_sql.specs.Rows.{put_ballot, put_choice, take_ballot, take_choice}
use Rattle.dip_store_sql.specs.Schema.{our_schema, ballot_table, choice_table, desk_table, seat_table}
use Rattle.dip_store_sql.specs.Statements as text
use Rattle.dip_store_sql.specs.Storing.{AreSpared, next_row}
use Rattle.dip_store_sql.proofs.Casting.{cast_ballot, cast_choice}
use Rattle.dip_store_sql.proofs.Changes.{insert_behind}
use Rattle.dip_store_sql.proofs.Meaning.{commanded}
use Rattle.dip_store_sql.proofs.Statements.{inserted, updated}
use Rattle.dip_store_sql.proofs.Texts as means

module _ (old new : State) (count : ℕ) (good : IsGood old.now) where
  pub ballot_stands : (b : BallotRow) → Executes text.add_ballot_text (put_ballot b) old new (Ok count)
      → AreSpared ballot_table old.now.trees new.now.trees × (new.now.trees 16 ≡ old.now.trees 16 ++ next_row put_ballot b (old.now.trees 16) ∷ [])
  ballot_stands b h =
      let e = inserted our_schema 8 ballot_table refl refl (λ db. refl) (λ olds news. refl) text.add_ballot_text means.add_ballot.1 old new (put_ballot b) count good.schema text.add_ballot_values 4 (commanded _ _ means.add_ballot.0) h in
      (e.applies.tables, insert_behind put_ballot take_ballot (λ v a. refl) ballot_table cast_ballot our_schema old.now new.now good.ballots b _ refl e)

  pub choice_stands : (c : ChoiceRow) → Executes text.add_choice_text (put_choice c) old new (Ok count)
      → AreSpared choice_table old.now.trees new.now.trees × (new.now.trees 18 ≡ old.now.trees 18 ++ next_row put_choice c (old.now.trees 18) ∷ [])
  choice_stands c h =
      let e = inserted our_schema 9 choice_table refl refl (λ db. refl) (λ olds news. refl) text.add_choice_text means.add_choice.1 old new (put_choice c) count good.schema text.add_choice_values 3 (commanded _ _ means.add_choice.0) h in
      (e.applies.tables, insert_behind put_choice take_choice (λ v a. refl) choice_table cast_choice our_schema old.now new.now good.choices c _ refl e)

  pub votes_alone : Executes text.clear_votes_text [] old new (Ok count) → AreSpared seat_table old.now.trees new.now.trees
  votes_alone h =
      let it = updated our_schema 2 seat_table refl refl (λ db. refl) (λ olds news. refl) text.clear_votes_text means.clear_votes.1 old new [] count good.schema [] text.clear_votes_row (commanded _ _ means.clear_votes.0) h in
      it.2.applies.tables

  pub version_alone : Executes text.set_version_text [] old new (Ok count) → AreSpared desk_table old.now.trees new.now.trees
  version_alone h =
      let it = updated our_schema 0 desk_table refl refl (λ db. refl) (λ olds news. refl) text.set_version_text means.set_version.1 old new [] count good.schema by_first text.set_version_row (commanded _ _ means.set_version.0) h in
      it.2.applies.tables
