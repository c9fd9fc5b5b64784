-- What each statement that writes makes of the tables.
use Rattle.std.proofs.Common.{◌≡◌, ℕ, pos, List, [], ◌∷◌, Ok, refl}
use Rattle.sqlite.specs.declared.types.Value.TheVariants.{Int, Text as Words, Blob as Bytes}
use Rattle.sqlite.specs.State.{State, Executes}
use Rattle.dip_store_sql.proofs.Statements.{inserted, updated, deleted}
use Rattle.dip_store_sql.proofs.Changes.{insert_all_is, insert_is, delete_is, update_is}
use Rattle.dip_store_sql.proofs.Whole.{whole_rising}
use Rattle.dip_store_sql.specs.Schema.{our_schema, desk_table, game_table, seat_table, unit_table, centre_table, pending_table, box_table, paper_table, ballot_table, choice_table}
use Rattle.dip_store_sql.specs.Asking.{by_one, by_two, by_first}
use Rattle.dip_store_sql.specs.Statements as text
use Rattle.dip_store_sql.proofs.Texts as means
use Rattle.dip_store_sql.proofs.Meaning.{commanded}
use Rattle.dip_store_rows.specs.Tables.{UnitRow, CentreRow}
use Rattle.dip_store_rows.specs.Tables.{GameRow, PendingRow, BoxRow, PaperRow, BallotRow, ChoiceRow, is_ballot_in, is_choice_in, is_ballot, is_seat_in, is_unit_in, is_centre_in, is_pending_in, is_box_in, is_paper_in, is_named, is_seat, is_pending}
use Rattle.dip_store_sql.specs.Rows.{tables_of, put_desk, take_desk, put_game, take_game, put_seat, take_seat, put_unit, take_unit, put_centre, take_centre, put_pending, take_pending, put_box, take_box, put_paper, take_paper, put_ballot, take_ballot, put_choice, take_choice}
use Rattle.dip_store_sql.specs.Good.{IsGood}
use Rattle.dip_store_sql.specs.TablesAfter.{order, is_first, on_desk, on_game, on_seat, on_seats, with_desk, with_game, with_seat, with_unit, with_centre, more_orders, with_item, with_paper, with_ballot, with_choice, on_ballot, named, no_ballots, no_choices, no_seats, no_units, no_centres, no_pending, no_orders, no_items, no_papers, new_desk, new_seat, desk_with, seat_with, counting, secret_as, game_as}
use Rattle.dip_store_rows.specs.Made.{second, voteless}
use Rattle.dip_store_sql.proofs.Turned.{desk_turned, game_turned, seat_turned, unit_turned, centre_turned, pending_turned, box_turned, paper_turned, ballot_turned, choice_turned}
use Rattle.dip_store_sql.proofs.Casting.{cast_desk, cast_game, cast_seat, cast_unit, cast_centre, cast_pending, cast_box, cast_paper, cast_ballot, cast_choice}
use Rattle.dip_store_sql.proofs.Apart.{one_ballot, one_desk, one_game, one_seat}
use Rattle.dip_store_sql.proofs.Telling.{tells_desk, tells_game_in, tells_seat_in, tells_unit_in, tells_centre_in, tells_pending_in, tells_box_in, tells_paper_in, tells_ballot_in, tells_choice_in, tells_ballot, tells_seat, tells_pending}

module _ (old new : State) (count : ℕ) (good : IsGood old.now) where
  pub add_desk : (map digest : List ℕ) → Executes text.add_desk_text (Bytes map ∷ Bytes digest ∷ []) old new (Ok count) → IsGood new.now × (tables_of new.now.trees ≡ with_desk (new_desk map digest) (tables_of old.now.trees))
  add_desk map digest h =
      let e = inserted our_schema 0 desk_table refl refl (λ db. refl) (λ olds news. refl) text.add_desk_text means.add_desk.1 old new (Bytes map ∷ Bytes digest ∷ []) count good.schema text.add_desk_values 8 (commanded _ _ means.add_desk.0) h in
      desk_turned old.now new.now good _ e _ refl (insert_is put_desk take_desk (λ v a. refl) desk_table cast_desk our_schema old.now new.now good.desk (new_desk map digest) _ refl e)

  pub add_game : (g : GameRow) → Executes text.add_game_text (put_game g) old new (Ok count) → IsGood new.now × (tables_of new.now.trees ≡ with_game g (tables_of old.now.trees))
  add_game g h =
      let e = inserted our_schema 1 game_table refl refl (λ db. refl) (λ olds news. refl) text.add_game_text means.add_game.1 old new (put_game g) count good.schema text.add_game_values 10 (commanded _ _ means.add_game.0) h in
      game_turned old.now new.now good _ e _ refl (insert_is put_game take_game (λ v a. refl) game_table cast_game our_schema old.now new.now good.games g _ refl e)

  pub add_seat : (game power digest : List ℕ) → Executes text.add_seat_text (Words game ∷ Words power ∷ Bytes digest ∷ []) old new (Ok count) → IsGood new.now × (tables_of new.now.trees ≡ with_seat (new_seat game power digest) (tables_of old.now.trees))
  add_seat game power digest h =
      let e = inserted our_schema 2 seat_table refl refl (λ db. refl) (λ olds news. refl) text.add_seat_text means.add_seat.1 old new (Words game ∷ Words power ∷ Bytes digest ∷ []) count good.schema text.add_seat_values 10 (commanded _ _ means.add_seat.0) h in
      seat_turned old.now new.now good _ e _ refl (insert_is put_seat take_seat (λ v a. refl) seat_table cast_seat our_schema old.now new.now good.seats (new_seat game power digest) _ refl e)

  pub add_unit : (u : UnitRow) → Executes text.add_unit_text (put_unit u) old new (Ok count) → IsGood new.now × (tables_of new.now.trees ≡ with_unit u (tables_of old.now.trees))
  add_unit u h =
      let e = inserted our_schema 3 unit_table refl refl (λ db. refl) (λ olds news. refl) text.add_unit_text means.add_unit.1 old new (put_unit u) count good.schema text.add_unit_values 8 (commanded _ _ means.add_unit.0) h in
      unit_turned old.now new.now good _ e _ refl (insert_is put_unit take_unit (λ v a. refl) unit_table cast_unit our_schema old.now new.now good.units u _ refl e)

  pub add_centre : (c : CentreRow) → Executes text.add_centre_text (put_centre c) old new (Ok count) → IsGood new.now × (tables_of new.now.trees ≡ with_centre c (tables_of old.now.trees))
  add_centre c h =
      let e = inserted our_schema 4 centre_table refl refl (λ db. refl) (λ olds news. refl) text.add_centre_text means.add_centre.1 old new (put_centre c) count good.schema text.add_centre_values 4 (commanded _ _ means.add_centre.0) h in
      centre_turned old.now new.now good _ e _ refl (insert_is put_centre take_centre (λ v a. refl) centre_table cast_centre our_schema old.now new.now good.centres c _ refl e)

  pub add_pending : (p : PendingRow) → Executes text.add_pending_text (put_pending p) old new (Ok count) → IsGood new.now × (tables_of new.now.trees ≡ more_orders (p ∷ []) (tables_of old.now.trees))
  add_pending p h =
      let e = inserted our_schema 5 pending_table refl refl (λ db. refl) (λ olds news. refl) text.add_pending_text means.add_pending.1 old new (put_pending p) count good.schema text.add_pending_values 5 (commanded _ _ means.add_pending.0) h in
      pending_turned old.now new.now good _ e _ refl (insert_is put_pending take_pending (λ v a. refl) pending_table cast_pending our_schema old.now new.now good.pending p _ refl e)

  pub add_three_pending : (game power : List ℕ) (p q r : List ℕ × List ℕ)
      → Executes text.add_three_pending_text (Words game ∷ Words power ∷ Words p.0 ∷ Words p.1 ∷ Words q.0 ∷ Words q.1 ∷ Words r.0 ∷ Words r.1 ∷ []) old new (Ok count)
      → IsGood new.now × (tables_of new.now.trees ≡ more_orders (order game power p ∷ order game power q ∷ order game power r ∷ []) (tables_of old.now.trees))
  add_three_pending game power p q r h =
      let params = Words game ∷ Words power ∷ Words p.0 ∷ Words p.1 ∷ Words q.0 ∷ Words q.1 ∷ Words r.0 ∷ Words r.1 ∷ [] in
      let e = inserted our_schema 5 pending_table refl refl (λ db. refl) (λ olds news. refl) text.add_three_pending_text means.add_three_pending.1 old new params count good.schema text.add_three_pending_values 5 (commanded _ _ means.add_three_pending.0) h in
      pending_turned old.now new.now good _ e _ refl
      (insert_all_is put_pending take_pending (λ v a. refl) pending_table cast_pending our_schema old.now new.now good.pending (order game power p ∷ order game power q ∷ order game power r ∷ []) _ refl e)

  pub add_item : (b : BoxRow) → Executes text.add_item_text (put_box b) old new (Ok count) → IsGood new.now × (tables_of new.now.trees ≡ with_item b (tables_of old.now.trees))
  add_item b h =
      let e = inserted our_schema 6 box_table refl refl (λ db. refl) (λ olds news. refl) text.add_item_text means.add_item.1 old new (put_box b) count good.schema text.add_item_values 8 (commanded _ _ means.add_item.0) h in
      box_turned old.now new.now good _ e _ refl (insert_is put_box take_box (λ v a. refl) box_table cast_box our_schema old.now new.now good.boxes b _ refl e)

  pub add_paper : (p : PaperRow) → Executes text.add_paper_text (put_paper p) old new (Ok count) → IsGood new.now × (tables_of new.now.trees ≡ with_paper p (tables_of old.now.trees))
  add_paper p h =
      let e = inserted our_schema 7 paper_table refl refl (λ db. refl) (λ olds news. refl) text.add_paper_text means.add_paper.1 old new (put_paper p) count good.schema text.add_paper_values 4 (commanded _ _ means.add_paper.0) h in
      paper_turned old.now new.now good _ e _ refl (insert_is put_paper take_paper (λ v a. refl) paper_table cast_paper our_schema old.now new.now good.papers p _ refl e)

  pub add_ballot : (b : BallotRow) → Executes text.add_ballot_text (put_ballot b) old new (Ok count) → IsGood new.now × (tables_of new.now.trees ≡ with_ballot b (tables_of old.now.trees))
  add_ballot b h =
      let e = inserted our_schema 8 ballot_table refl refl (λ db. refl) (λ olds news. refl) text.add_ballot_text means.add_ballot.1 old new (put_ballot b) count good.schema text.add_ballot_values 4 (commanded _ _ means.add_ballot.0) h in
      ballot_turned old.now new.now good _ e _ refl (insert_is put_ballot take_ballot (λ v a. refl) ballot_table cast_ballot our_schema old.now new.now good.ballots b _ refl e)

  pub add_choice : (c : ChoiceRow) → Executes text.add_choice_text (put_choice c) old new (Ok count) → IsGood new.now × (tables_of new.now.trees ≡ with_choice c (tables_of old.now.trees))
  add_choice c h =
      let e = inserted our_schema 9 choice_table refl refl (λ db. refl) (λ olds news. refl) text.add_choice_text means.add_choice.1 old new (put_choice c) count good.schema text.add_choice_values 3 (commanded _ _ means.add_choice.0) h in
      choice_turned old.now new.now good _ e _ refl (insert_is put_choice take_choice (λ v a. refl) choice_table cast_choice our_schema old.now new.now good.choices c _ refl e)

  pub drop_seats : (game : List ℕ) → Executes text.drop_seats_text (Words game ∷ []) old new (Ok count) → IsGood new.now × (tables_of new.now.trees ≡ no_seats game (tables_of old.now.trees))
  drop_seats game h =
      let params = Words game ∷ [] in
      let it = deleted our_schema 2 seat_table refl refl (λ db. refl) (λ olds news. refl) text.drop_seats_text means.drop_seats.1 old new params count good.schema by_one (commanded _ _ means.drop_seats.0) h in
      seat_turned old.now new.now good _ it.2 _ refl (delete_is put_seat take_seat (λ v a. refl) seat_table cast_seat our_schema old.now new.now good.seats params by_one (is_seat_in game) (tells_seat_in game []) it.0 it.1 it.2)

  pub drop_units : (game : List ℕ) → Executes text.drop_units_text (Words game ∷ []) old new (Ok count) → IsGood new.now × (tables_of new.now.trees ≡ no_units game (tables_of old.now.trees))
  drop_units game h =
      let params = Words game ∷ [] in
      let it = deleted our_schema 3 unit_table refl refl (λ db. refl) (λ olds news. refl) text.drop_units_text means.drop_units.1 old new params count good.schema by_one (commanded _ _ means.drop_units.0) h in
      unit_turned old.now new.now good _ it.2 _ refl (delete_is put_unit take_unit (λ v a. refl) unit_table cast_unit our_schema old.now new.now good.units params by_one (is_unit_in game) (tells_unit_in game []) it.0 it.1 it.2)

  pub drop_centres : (game : List ℕ) → Executes text.drop_centres_text (Words game ∷ []) old new (Ok count) → IsGood new.now × (tables_of new.now.trees ≡ no_centres game (tables_of old.now.trees))
  drop_centres game h =
      let params = Words game ∷ [] in
      let it = deleted our_schema 4 centre_table refl refl (λ db. refl) (λ olds news. refl) text.drop_centres_text means.drop_centres.1 old new params count good.schema by_one (commanded _ _ means.drop_centres.0) h in
      centre_turned old.now new.now good _ it.2 _ refl (delete_is put_centre take_centre (λ v a. refl) centre_table cast_centre our_schema old.now new.now good.centres params by_one (is_centre_in game) (tells_centre_in game []) it.0 it.1 it.2)

  pub drop_pending : (game : List ℕ) → Executes text.drop_pending_text (Words game ∷ []) old new (Ok count) → IsGood new.now × (tables_of new.now.trees ≡ no_pending game (tables_of old.now.trees))
  drop_pending game h =
      let params = Words game ∷ [] in
      let it = deleted our_schema 5 pending_table refl refl (λ db. refl) (λ olds news. refl) text.drop_pending_text means.drop_pending.1 old new params count good.schema by_one (commanded _ _ means.drop_pending.0) h in
      pending_turned old.now new.now good _ it.2 _ refl (delete_is put_pending take_pending (λ v a. refl) pending_table cast_pending our_schema old.now new.now good.pending params by_one (is_pending_in game) (tells_pending_in game []) it.0 it.1 it.2)

  pub drop_orders : (game power : List ℕ) → Executes text.drop_orders_text (Words game ∷ Words power ∷ []) old new (Ok count) → IsGood new.now × (tables_of new.now.trees ≡ no_orders game power (tables_of old.now.trees))
  drop_orders game power h =
      let params = Words game ∷ Words power ∷ [] in
      let it = deleted our_schema 5 pending_table refl refl (λ db. refl) (λ olds news. refl) text.drop_orders_text means.drop_orders.1 old new params count good.schema by_two (commanded _ _ means.drop_orders.0) h in
      pending_turned old.now new.now good _ it.2 _ refl (delete_is put_pending take_pending (λ v a. refl) pending_table cast_pending our_schema old.now new.now good.pending params by_two (is_pending game power) (tells_pending game power []) it.0 it.1 it.2)

  pub drop_items : (game : List ℕ) → Executes text.drop_items_text (Words game ∷ []) old new (Ok count) → IsGood new.now × (tables_of new.now.trees ≡ no_items game (tables_of old.now.trees))
  drop_items game h =
      let params = Words game ∷ [] in
      let it = deleted our_schema 6 box_table refl refl (λ db. refl) (λ olds news. refl) text.drop_items_text means.drop_items.1 old new params count good.schema by_one (commanded _ _ means.drop_items.0) h in
      box_turned old.now new.now good _ it.2 _ refl (delete_is put_box take_box (λ v a. refl) box_table cast_box our_schema old.now new.now good.boxes params by_one (is_box_in game) (tells_box_in game []) it.0 it.1 it.2)

  pub drop_papers : (game : List ℕ) → Executes text.drop_papers_text (Words game ∷ []) old new (Ok count) → IsGood new.now × (tables_of new.now.trees ≡ no_papers game (tables_of old.now.trees))
  drop_papers game h =
      let params = Words game ∷ [] in
      let it = deleted our_schema 7 paper_table refl refl (λ db. refl) (λ olds news. refl) text.drop_papers_text means.drop_papers.1 old new params count good.schema by_one (commanded _ _ means.drop_papers.0) h in
      paper_turned old.now new.now good _ it.2 _ refl (delete_is put_paper take_paper (λ v a. refl) paper_table cast_paper our_schema old.now new.now good.papers params by_one (is_paper_in game) (tells_paper_in game []) it.0 it.1 it.2)

  pub drop_ballots : (game : List ℕ) → Executes text.drop_ballots_text (Words game ∷ []) old new (Ok count) → IsGood new.now × (tables_of new.now.trees ≡ no_ballots game (tables_of old.now.trees))
  drop_ballots game h =
      let params = Words game ∷ [] in
      let it = deleted our_schema 8 ballot_table refl refl (λ db. refl) (λ olds news. refl) text.drop_ballots_text means.drop_ballots.1 old new params count good.schema by_one (commanded _ _ means.drop_ballots.0) h in
      ballot_turned old.now new.now good _ it.2 _ refl (delete_is put_ballot take_ballot (λ v a. refl) ballot_table cast_ballot our_schema old.now new.now good.ballots params by_one (is_ballot_in game) (tells_ballot_in game []) it.0 it.1 it.2)

  pub drop_choices : (game : List ℕ) → Executes text.drop_choices_text (Words game ∷ []) old new (Ok count) → IsGood new.now × (tables_of new.now.trees ≡ no_choices game (tables_of old.now.trees))
  drop_choices game h =
      let params = Words game ∷ [] in
      let it = deleted our_schema 9 choice_table refl refl (λ db. refl) (λ olds news. refl) text.drop_choices_text means.drop_choices.1 old new params count good.schema by_one (commanded _ _ means.drop_choices.0) h in
      choice_turned old.now new.now good _ it.2 _ refl (delete_is put_choice take_choice (λ v a. refl) choice_table cast_choice our_schema old.now new.now good.choices params by_one (is_choice_in game) (tells_choice_in game []) it.0 it.1 it.2)

  pub note_desk : (last : ℕ) (kept reply : List ℕ) → Executes text.note_desk_text (Int (pos last) ∷ Bytes kept ∷ Words reply ∷ []) old new (Ok count) → IsGood new.now × (tables_of new.now.trees ≡ on_desk (desk_with last kept reply) (tables_of old.now.trees))
  note_desk last kept reply h =
      let more = Int (pos last) ∷ Bytes kept ∷ Words reply ∷ [] in
      let params = more in
      let it = updated our_schema 0 desk_table refl refl (λ db. refl) (λ olds news. refl) text.note_desk_text means.note_desk.1 old new params count good.schema by_first text.note_desk_row (commanded _ _ means.note_desk.0) h in
      desk_turned old.now new.now good _ it.2 _ refl (update_is put_desk take_desk (λ v a. refl) desk_table cast_desk our_schema old.now new.now good.desk params by_first is_first (tells_desk params) (desk_with last kept reply) text.note_desk_row (λ v a. refl) (one_desk old.now good) it.0 it.1 it.2)

  pub renew_seat : (game power digest : List ℕ) (last : ℕ) (kept reply : List ℕ) (sent items : ℕ) → Executes text.renew_seat_text (Words game ∷ Words power ∷ Bytes digest ∷ Int (pos last) ∷ Bytes kept ∷ Words reply ∷ Int (pos sent) ∷ Int (pos items) ∷ []) old new (Ok count) → IsGood new.now × (tables_of new.now.trees ≡ on_seat game power (seat_with digest last kept reply sent items) (tables_of old.now.trees))
  renew_seat game power digest last kept reply sent items h =
      let more = Bytes digest ∷ Int (pos last) ∷ Bytes kept ∷ Words reply ∷ Int (pos sent) ∷ Int (pos items) ∷ [] in
      let params = Words game ∷ Words power ∷ more in
      let it = updated our_schema 2 seat_table refl refl (λ db. refl) (λ olds news. refl) text.renew_seat_text means.renew_seat.1 old new params count good.schema by_two text.renew_seat_row (commanded _ _ means.renew_seat.0) h in
      seat_turned old.now new.now good _ it.2 _ refl (update_is put_seat take_seat (λ v a. refl) seat_table cast_seat our_schema old.now new.now good.seats params by_two (is_seat game power) (tells_seat game power more) (seat_with digest last kept reply sent items) text.renew_seat_row (λ v a. refl) (one_seat old.now good game power) it.0 it.1 it.2)

  pub note_ballot : (game power names : List ℕ) → Executes text.note_ballot_text (Words game ∷ Words power ∷ Words names ∷ []) old new (Ok count) → IsGood new.now × (tables_of new.now.trees ≡ on_ballot game power (named names) (tables_of old.now.trees))
  note_ballot game power names h =
      let more = Words names ∷ [] in
      let params = Words game ∷ Words power ∷ more in
      let it = updated our_schema 8 ballot_table refl refl (λ db. refl) (λ olds news. refl) text.note_ballot_text means.note_ballot.1 old new params count good.schema by_two text.note_ballot_row (commanded _ _ means.note_ballot.0) h in
      ballot_turned old.now new.now good _ it.2 _ refl (update_is put_ballot take_ballot (λ v a. refl) ballot_table cast_ballot our_schema old.now new.now good.ballots params by_two (is_ballot game power) (tells_ballot game power more) (named names) text.note_ballot_row (λ v a. refl) (one_ballot old.now good game power) it.0 it.1 it.2)

  pub clear_votes : Executes text.clear_votes_text [] old new (Ok count) → IsGood new.now × (tables_of new.now.trees ≡ on_seats voteless (tables_of old.now.trees))
  clear_votes h =
      let it = updated our_schema 2 seat_table refl refl (λ db. refl) (λ olds news. refl) text.clear_votes_text means.clear_votes.1 old new [] count good.schema [] text.clear_votes_row (commanded _ _ means.clear_votes.0) h in
      seat_turned old.now new.now good _ it.2 _ refl (whole_rising put_seat take_seat (λ v a. refl) seat_table cast_seat old.now.trees good.seats [] voteless text.clear_votes_row (λ v a. refl) it.0 it.1 (new.now.trees 4) it.2.applies.rows)

  pub set_version : Executes text.set_version_text [] old new (Ok count) → IsGood new.now × (tables_of new.now.trees ≡ on_desk second (tables_of old.now.trees))
  set_version h =
      let it = updated our_schema 0 desk_table refl refl (λ db. refl) (λ olds news. refl) text.set_version_text means.set_version.1 old new [] count good.schema by_first text.set_version_row (commanded _ _ means.set_version.0) h in
      desk_turned old.now new.now good _ it.2 _ refl (update_is put_desk take_desk (λ v a. refl) desk_table cast_desk our_schema old.now new.now good.desk [] by_first is_first (tells_desk []) second text.set_version_row (λ v a. refl) (one_desk old.now good) it.0 it.1 it.2)

  pub count_item : (game power : List ℕ) (items : ℕ) → Executes text.count_item_text (Words game ∷ Words power ∷ Int (pos items) ∷ []) old new (Ok count) → IsGood new.now × (tables_of new.now.trees ≡ on_seat game power (counting items) (tables_of old.now.trees))
  count_item game power items h =
      let more = Int (pos items) ∷ [] in
      let params = Words game ∷ Words power ∷ more in
      let it = updated our_schema 2 seat_table refl refl (λ db. refl) (λ olds news. refl) text.count_item_text means.count_item.1 old new params count good.schema by_two text.count_item_row (commanded _ _ means.count_item.0) h in
      seat_turned old.now new.now good _ it.2 _ refl (update_is put_seat take_seat (λ v a. refl) seat_table cast_seat our_schema old.now new.now good.seats params by_two (is_seat game power) (tells_seat game power more) (counting items) text.count_item_row (λ v a. refl) (one_seat old.now good game power) it.0 it.1 it.2)

  pub replace_digest : (game power : List ℕ) (digest : List ℕ) → Executes text.replace_digest_text (Words game ∷ Words power ∷ Bytes digest ∷ []) old new (Ok count) → IsGood new.now × (tables_of new.now.trees ≡ on_seat game power (secret_as digest) (tables_of old.now.trees))
  replace_digest game power digest h =
      let more = Bytes digest ∷ [] in
      let params = Words game ∷ Words power ∷ more in
      let it = updated our_schema 2 seat_table refl refl (λ db. refl) (λ olds news. refl) text.replace_digest_text means.replace_digest.1 old new params count good.schema by_two text.replace_digest_row (commanded _ _ means.replace_digest.0) h in
      seat_turned old.now new.now good _ it.2 _ refl (update_is put_seat take_seat (λ v a. refl) seat_table cast_seat our_schema old.now new.now good.seats params by_two (is_seat game power) (tells_seat game power more) (secret_as digest) text.replace_digest_row (λ v a. refl) (one_seat old.now good game power) it.0 it.1 it.2)

  pub renew_game : (g : GameRow) → Executes text.renew_game_text (Words g.name ∷ Int (pos g.year) ∷ Int (pos g.phase) ∷ Words g.status ∷ Int (pos g.due) ∷ Int (pos g.period) ∷ Int (pos g.grey) ∷ Int (pos g.papers) ∷ Words g.standoff ∷ []) old new (Ok count) → IsGood new.now × (tables_of new.now.trees ≡ on_game g.name (game_as g) (tables_of old.now.trees))
  renew_game g h =
      let more = Int (pos g.year) ∷ Int (pos g.phase) ∷ Words g.status ∷ Int (pos g.due) ∷ Int (pos g.period) ∷ Int (pos g.grey) ∷ Int (pos g.papers) ∷ Words g.standoff ∷ [] in
      let params = Words g.name ∷ more in
      let it = updated our_schema 1 game_table refl refl (λ db. refl) (λ olds news. refl) text.renew_game_text means.renew_game.1 old new params count good.schema by_one text.renew_game_row (commanded _ _ means.renew_game.0) h in
      game_turned old.now new.now good _ it.2 _ refl (update_is put_game take_game (λ v a. refl) game_table cast_game our_schema old.now new.now good.games params by_one (is_named g.name) (tells_game_in g.name more) (game_as g) text.renew_game_row (λ v a. refl) (one_game old.now good g.name) it.0 it.1 it.2)
