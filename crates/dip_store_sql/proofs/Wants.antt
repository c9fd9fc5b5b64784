-- On the tables of a desk a statement that writes fails for want alone, where no key comes twice.
use Rattle.std.proofs.Common.{◌≡◌, inl, inr, ℕ, pos, List, [], ◌∷◌, ◌++◌, length, map, Bool, true, false, not, cond, Err, IsTrue, None, refl, sym, subst, ◌∙◌}
use Rattle.std.specs.List.{AllByRecursion}
use Rattle.std.proofs.lemmas.Bool.{cases_Bool}
use Rattle.sqlite.specs.declared.types.Value.TheVariants.{Int, Text as Words, Blob as Bytes}
use Rattle.sqlite.specs.declared.error.Error.{Error}
use Rattle.sqlite.specs.Order.{Row}
use Rattle.sqlite.specs.Tree.{Trees}
use Rattle.sqlite.specs.State.{State, Executes}
use Rattle.dip_store_rows.specs.Lists.{update_where, delete_where}
use Rattle.dip_store_rows.proofs.ListLemmas.{all_of, all_unmap, ascending-filter, ascending-map}
use Rattle.sqlite_catalog.specs.Listing.{IsSound}
use Rattle.sqlite_schema.specs.declared.schema.Among.{Among}
use Rattle.sqlite_schema.specs.declared.schema.Constraint.TheVariants.{Unique}
use Rattle.sqlite_schema.specs.Rules.{Keeps, Refers}
use Rattle.dip_store_sql.specs.Asking.{by_one, by_two, by_first}
use Rattle.dip_store_sql.specs.Schema.{our_schema, desk_table, game_table, seat_table, unit_table, centre_table, pending_table, box_table, paper_table, ballot_table, choice_table}
use Rattle.dip_store_sql.specs.Statements as text
use Rattle.dip_store_sql.proofs.Texts as means
use Rattle.dip_store_rows.specs.Tables.{UnitRow, CentreRow}
use Rattle.dip_store_rows.specs.Apart.{same_name, same_seat}
use Rattle.dip_store_rows.specs.Tables.{GameRow, PendingRow, BoxRow, PaperRow, BallotRow, ChoiceRow, is_ballot_in, is_choice_in, is_ballot, is_seat_in, is_unit_in, is_centre_in, is_pending_in, is_box_in, is_paper_in, is_named, is_seat, is_pending}
use Rattle.dip_store_sql.specs.Causes.{Faulted, IsCaused}
use Rattle.dip_store_sql.specs.Good.{IsGood}
use Rattle.dip_store_sql.specs.Rows.{tables_of, put_desk, take_desk, put_game, take_game, put_seat, take_seat, put_unit, take_unit, put_centre, take_centre, put_pending, take_pending, put_box, take_box, put_paper, take_paper, put_ballot, take_ballot, put_choice, take_choice}
use Rattle.dip_store_sql.specs.TablesAfter.{order, is_first, new_desk, new_seat, desk_with, seat_with, named, counting, secret_as, game_as}
use Rattle.dip_store_rows.specs.Made.{second, voteless}
use Rattle.dip_store_sql.proofs.Apart.{one_ballot, one_desk, one_game, one_seat}
use Rattle.dip_store_sql.proofs.Casting.{cast_desk, cast_game, cast_seat, cast_unit, cast_centre, cast_pending, cast_box, cast_paper, cast_ballot, cast_choice}
use Rattle.dip_store_sql.proofs.Telling.{tells_desk, tells_game_in, tells_seat_in, tells_unit_in, tells_centre_in, tells_pending_in, tells_box_in, tells_paper_in, tells_ballot_in, tells_choice_in, tells_ballot, tells_seat, tells_pending}
use Rattle.dip_store_sql.specs.Keys.{AreKeyed, Differ, same_ballot, same_centre, same_choice, same_desk, same_item, same_order, same_paper, same_unit}
use Rattle.dip_store_sql.specs.Refusals.{IsWant}
use Rattle.dip_store_sql.specs.Storing.{CanStand, next_row, second_row, voteless_row}
use Rattle.dip_store_sql.proofs.Asked as asked
use Rattle.dip_store_sql.proofs.First.{desk_fits}
use Rattle.dip_store_sql.proofs.Keyed.{are_keyed}
use Rattle.dip_store_sql.proofs.Ruled.{desk_rules, game_rules, seat_rules, unit_rules, centre_rules, pending_rules, box_rules, paper_rules, ballot_rules, choice_rules, desk_keyed, games_keyed, seats_keyed, units_keyed, centres_keyed, pending_keyed, boxes_keyed, papers_keyed, ballots_keyed, choices_keyed}
use Rattle.dip_store_sql.proofs.Sane.{delete_sane, insert_all_sane, insert_first, insert_fits, insert_sane, update_fits, update_sane, whole_sane}
use Rattle.dip_store_sql.proofs.Wanting.{update_wants, whole_wants}

-- records that are left, or changed but for their key, still differ
left : {A : Type 0} (same : A → A → Bool) (p : A → Bool) (xs : List A) → Differ same xs → Differ same (delete_where p xs)
left same p xs apart = ascending-filter _ (λ x. not (p x)) xs apart

changed : {A : Type 0} (same : A → A → Bool) (p : A → Bool) (f : A → A) → ((a b : A) → same (f a) b ≡ same a b) → ((a b : A) → same a (f b) ≡ same a b) → (xs : List A) → Differ same xs → Differ same (update_where p f xs)
changed {A} same p f one other [] apart = tt
changed {A} same p f one other (x ∷ xs) apart = (behind x xs apart.0, changed same p f one other xs apart.1)
  where
    new : A → A
    new y = cond (p y) (f y) y

    both : (x y : A) → same x y ≡ false → same (new x) (new y) ≡ false
    both x y e = elim (cases_Bool (p x)) [
      | inl a ↦ elim (cases_Bool (p y)) [ inl b ↦ rw (a, b) (one x (f y) ∙ other x y ∙ e) | inr b ↦ rw (a, b) (one x y ∙ e) ]
      | inr a ↦ elim (cases_Bool (p y)) [ inl b ↦ rw (a, b) (other x y ∙ e) | inr b ↦ rw (a, b) e ]
    ]

    behind : (x : A) (ys : List A) → AllByRecursion (λ y. same x y ≡ false) ys → AllByRecursion (λ y. same (new x) y ≡ false) (update_where p f ys)
    behind x [] all = tt
    behind x (y ∷ ys) all = (both x y all.0, behind x ys all.1)

-- no record is there, so no row
pub rows_of_none : {A : Type 0} (take : Row → A) (rows : List Row) → map take rows ≡ [] → rows ≡ []
rows_of_none take [] none = refl
rows_of_none take (r ∷ rows) none = absurd (cc)

-- there are no references
refers : (among : Among) (db : Trees) → Refers among our_schema db
refers among db = (all_of _ (λ r. refl) (db 0), (all_of _ (λ r. refl) (db 2), (all_of _ (λ r. refl) (db 4), (all_of _ (λ r. refl) (db 6), (all_of _ (λ r. refl) (db 8), (all_of _ (λ r. refl) (db 10), (all_of _ (λ r. refl) (db 12), (all_of _ (λ r. refl) (db 14), (all_of _ (λ r. refl) (db 16), (all_of _ (λ r. refl) (db 18), tt))))))))))

module _ (old new : State) (good : IsGood old.now) (up : IsTrue old.is_open) (unlimited : old.step_limit ≡ None) (e : Error) where
  unique : Keeps Unique our_schema old.now.trees
  unique = (subst (λ s. IsSound s old.now.trees) good.schema good.sound).obeys.rules Unique

  keyed : AreKeyed (tables_of old.now.trees)
  keyed = are_keyed old.now good

  pub add_desk : (map digest : List ℕ) → Differ same_desk ((tables_of old.now.trees).desk ++ (new_desk map digest) ∷ []) → Executes text.add_desk_text (Bytes map ∷ Bytes digest ∷ []) old new (Err e) → IsWant (Faulted old new) e
  add_desk map digest apart h =
      insert_sane our_schema 0 desk_table refl refl (λ db. refl) (λ olds news. refl) refers put_desk take_desk (λ v a. refl) cast_desk desk_rules text.add_desk_text means.add_desk.1 (Bytes map ∷ Bytes digest ∷ []) asked.add_desk old new good.schema up unlimited good.desk e h
      text.add_desk_values 8 means.add_desk.0 refl (new_desk map digest) refl (λ rows it are. desk_keyed old.now.trees unique rows it (subst (Differ same_desk) (sym are) (apart)))

  -- the first row of the table
  pub first_desk : (map digest : List ℕ) → length map ≡ 32 → length digest ≡ 32 → (tables_of old.now.trees).desk ≡ [] → Executes text.add_desk_text (Bytes map ∷ Bytes digest ∷ []) old new (Err e) → IsCaused (Faulted old new) e
  first_desk map digest one other none h =
      insert_first our_schema 0 desk_table refl refl (λ db. refl) (λ olds news. refl) refers put_desk take_desk (λ v a. refl) cast_desk desk_rules text.add_desk_text means.add_desk.1 (Bytes map ∷ Bytes digest ∷ []) asked.add_desk old new good.schema up unlimited good.desk e h
      text.add_desk_values 8 means.add_desk.0 refl (new_desk map digest) refl
      (λ rows it are. desk_keyed old.now.trees unique rows it (subst (Differ same_desk) (sym are) (subst (λ ds. Differ same_desk (ds ++ (new_desk map digest) ∷ [])) (sym none) (tt, tt))))
      (rows_of_none take_desk (old.now.trees 0) none) (desk_fits map digest one other)

  pub add_game : (g : GameRow) → Differ same_name ((tables_of old.now.trees).games ++ g ∷ []) → Executes text.add_game_text (put_game g) old new (Err e) → IsWant (Faulted old new) e
  add_game g apart h =
      insert_sane our_schema 1 game_table refl refl (λ db. refl) (λ olds news. refl) refers put_game take_game (λ v a. refl) cast_game game_rules text.add_game_text means.add_game.1 (put_game g) asked.add_game old new good.schema up unlimited good.games e h
      text.add_game_values 10 means.add_game.0 refl (g) refl (λ rows it are. games_keyed old.now.trees unique rows it (subst (Differ same_name) (sym are) (apart)))

  pub add_seat : (game power digest : List ℕ) → Differ same_seat ((tables_of old.now.trees).seats ++ (new_seat game power digest) ∷ []) → Executes text.add_seat_text (Words game ∷ Words power ∷ Bytes digest ∷ []) old new (Err e) → IsWant (Faulted old new) e
  add_seat game power digest apart h =
      insert_sane our_schema 2 seat_table refl refl (λ db. refl) (λ olds news. refl) refers put_seat take_seat (λ v a. refl) cast_seat seat_rules text.add_seat_text means.add_seat.1 (Words game ∷ Words power ∷ Bytes digest ∷ []) asked.add_seat old new good.schema up unlimited good.seats e h
      text.add_seat_values 10 means.add_seat.0 refl (new_seat game power digest) refl (λ rows it are. seats_keyed old.now.trees unique rows it (subst (Differ same_seat) (sym are) (apart)))

  pub add_unit : (u : UnitRow) → Differ same_unit ((tables_of old.now.trees).units ++ u ∷ []) → Executes text.add_unit_text (put_unit u) old new (Err e) → IsWant (Faulted old new) e
  add_unit u apart h =
      insert_sane our_schema 3 unit_table refl refl (λ db. refl) (λ olds news. refl) refers put_unit take_unit (λ v a. refl) cast_unit unit_rules text.add_unit_text means.add_unit.1 (put_unit u) asked.add_unit old new good.schema up unlimited good.units e h
      text.add_unit_values 8 means.add_unit.0 refl (u) refl (λ rows it are. units_keyed old.now.trees unique rows it (subst (Differ same_unit) (sym are) (apart)))

  pub add_centre : (c : CentreRow) → Differ same_centre ((tables_of old.now.trees).centres ++ c ∷ []) → Executes text.add_centre_text (put_centre c) old new (Err e) → IsWant (Faulted old new) e
  add_centre c apart h =
      insert_sane our_schema 4 centre_table refl refl (λ db. refl) (λ olds news. refl) refers put_centre take_centre (λ v a. refl) cast_centre centre_rules text.add_centre_text means.add_centre.1 (put_centre c) asked.add_centre old new good.schema up unlimited good.centres e h
      text.add_centre_values 4 means.add_centre.0 refl (c) refl (λ rows it are. centres_keyed old.now.trees unique rows it (subst (Differ same_centre) (sym are) (apart)))

  pub add_pending : (p : PendingRow) → Differ same_order ((tables_of old.now.trees).pending ++ p ∷ []) → Executes text.add_pending_text (put_pending p) old new (Err e) → IsWant (Faulted old new) e
  add_pending p apart h =
      insert_sane our_schema 5 pending_table refl refl (λ db. refl) (λ olds news. refl) refers put_pending take_pending (λ v a. refl) cast_pending pending_rules text.add_pending_text means.add_pending.1 (put_pending p) asked.add_pending old new good.schema up unlimited good.pending e h
      text.add_pending_values 5 means.add_pending.0 refl (p) refl (λ rows it are. pending_keyed old.now.trees unique rows it (subst (Differ same_order) (sym are) (apart)))

  pub add_three_pending : (game power : List ℕ) (p q r : List ℕ × List ℕ) → Differ same_order ((tables_of old.now.trees).pending ++ order game power p ∷ order game power q ∷ order game power r ∷ [])
      → Executes text.add_three_pending_text (Words game ∷ Words power ∷ Words p.0 ∷ Words p.1 ∷ Words q.0 ∷ Words q.1 ∷ Words r.0 ∷ Words r.1 ∷ []) old new (Err e) → IsWant (Faulted old new) e
  add_three_pending game power p q r apart h =
      let params = Words game ∷ Words power ∷ Words p.0 ∷ Words p.1 ∷ Words q.0 ∷ Words q.1 ∷ Words r.0 ∷ Words r.1 ∷ [] in
      insert_all_sane our_schema 5 pending_table refl refl (λ db. refl) (λ olds news. refl) refers put_pending take_pending (λ v a. refl) cast_pending pending_rules text.add_three_pending_text means.add_three_pending.1 params asked.add_three_pending old new good.schema up unlimited good.pending e h
      text.add_three_pending_values 5 means.add_three_pending.0 refl (order game power p ∷ order game power q ∷ order game power r ∷ []) refl (λ rows it are. pending_keyed old.now.trees unique rows it (subst (Differ same_order) (sym are) (apart)))

  pub add_item : (b : BoxRow) → Differ same_item ((tables_of old.now.trees).boxes ++ b ∷ []) → Executes text.add_item_text (put_box b) old new (Err e) → IsWant (Faulted old new) e
  add_item b apart h =
      insert_sane our_schema 6 box_table refl refl (λ db. refl) (λ olds news. refl) refers put_box take_box (λ v a. refl) cast_box box_rules text.add_item_text means.add_item.1 (put_box b) asked.add_item old new good.schema up unlimited good.boxes e h
      text.add_item_values 8 means.add_item.0 refl (b) refl (λ rows it are. boxes_keyed old.now.trees unique rows it (subst (Differ same_item) (sym are) (apart)))

  pub add_paper : (p : PaperRow) → Differ same_paper ((tables_of old.now.trees).papers ++ p ∷ []) → Executes text.add_paper_text (put_paper p) old new (Err e) → IsWant (Faulted old new) e
  add_paper p apart h =
      insert_sane our_schema 7 paper_table refl refl (λ db. refl) (λ olds news. refl) refers put_paper take_paper (λ v a. refl) cast_paper paper_rules text.add_paper_text means.add_paper.1 (put_paper p) asked.add_paper old new good.schema up unlimited good.papers e h
      text.add_paper_values 4 means.add_paper.0 refl (p) refl (λ rows it are. papers_keyed old.now.trees unique rows it (subst (Differ same_paper) (sym are) (apart)))

  pub add_ballot : (b : BallotRow) → Differ same_ballot ((tables_of old.now.trees).ballots ++ b ∷ []) → Executes text.add_ballot_text (put_ballot b) old new (Err e) → IsWant (Faulted old new) e
  add_ballot b apart h =
      insert_sane our_schema 8 ballot_table refl refl (λ db. refl) (λ olds news. refl) refers put_ballot take_ballot (λ v a. refl) cast_ballot ballot_rules text.add_ballot_text means.add_ballot.1 (put_ballot b) asked.add_ballot old new good.schema up unlimited good.ballots e h
      text.add_ballot_values 4 means.add_ballot.0 refl (b) refl (λ rows it are. ballots_keyed old.now.trees unique rows it (subst (Differ same_ballot) (sym are) (apart)))

  pub add_choice : (c : ChoiceRow) → Differ same_choice ((tables_of old.now.trees).choices ++ c ∷ []) → Executes text.add_choice_text (put_choice c) old new (Err e) → IsWant (Faulted old new) e
  add_choice c apart h =
      insert_sane our_schema 9 choice_table refl refl (λ db. refl) (λ olds news. refl) refers put_choice take_choice (λ v a. refl) cast_choice choice_rules text.add_choice_text means.add_choice.1 (put_choice c) asked.add_choice old new good.schema up unlimited good.choices e h
      text.add_choice_values 3 means.add_choice.0 refl (c) refl (λ rows it are. choices_keyed old.now.trees unique rows it (subst (Differ same_choice) (sym are) (apart)))

  -- a ballot, or a choice, whose row can stand
  pub fits_ballot : (b : BallotRow) → Differ same_ballot ((tables_of old.now.trees).ballots ++ b ∷ []) → CanStand ballot_table (next_row put_ballot b (old.now.trees 16)) → Executes text.add_ballot_text (put_ballot b) old new (Err e) → IsCaused (Faulted old new) e
  fits_ballot b apart fits h =
      insert_fits our_schema 8 ballot_table refl refl (λ db. refl) (λ olds news. refl) refers put_ballot take_ballot (λ v a. refl) cast_ballot ballot_rules text.add_ballot_text means.add_ballot.1 (put_ballot b) asked.add_ballot old new good.schema up unlimited good.ballots e h
      text.add_ballot_values 4 means.add_ballot.0 refl (b) refl (λ rows it are. ballots_keyed old.now.trees unique rows it (subst (Differ same_ballot) (sym are) (apart))) fits

  pub fits_choice : (c : ChoiceRow) → Differ same_choice ((tables_of old.now.trees).choices ++ c ∷ []) → CanStand choice_table (next_row put_choice c (old.now.trees 18)) → Executes text.add_choice_text (put_choice c) old new (Err e) → IsCaused (Faulted old new) e
  fits_choice c apart fits h =
      insert_fits our_schema 9 choice_table refl refl (λ db. refl) (λ olds news. refl) refers put_choice take_choice (λ v a. refl) cast_choice choice_rules text.add_choice_text means.add_choice.1 (put_choice c) asked.add_choice old new good.schema up unlimited good.choices e h
      text.add_choice_values 3 means.add_choice.0 refl (c) refl (λ rows it are. choices_keyed old.now.trees unique rows it (subst (Differ same_choice) (sym are) (apart))) fits

  pub drop_seats : (game : List ℕ) → Executes text.drop_seats_text (Words game ∷ []) old new (Err e) → IsWant (Faulted old new) e
  drop_seats game h =
      delete_sane our_schema 2 seat_table refl refl (λ db. refl) (λ olds news. refl) refers put_seat take_seat (λ v a. refl) cast_seat seat_rules text.drop_seats_text means.drop_seats.1 (Words game ∷ []) asked.drop_seats old new good.schema up unlimited good.seats e h
      by_one (is_seat_in game) (tells_seat_in game []) means.drop_seats.0 refl (λ rows it are. seats_keyed old.now.trees unique rows it (subst (Differ same_seat) (sym are) (left same_seat (is_seat_in game) _ keyed.seats)))

  pub drop_units : (game : List ℕ) → Executes text.drop_units_text (Words game ∷ []) old new (Err e) → IsWant (Faulted old new) e
  drop_units game h =
      delete_sane our_schema 3 unit_table refl refl (λ db. refl) (λ olds news. refl) refers put_unit take_unit (λ v a. refl) cast_unit unit_rules text.drop_units_text means.drop_units.1 (Words game ∷ []) asked.drop_units old new good.schema up unlimited good.units e h
      by_one (is_unit_in game) (tells_unit_in game []) means.drop_units.0 refl (λ rows it are. units_keyed old.now.trees unique rows it (subst (Differ same_unit) (sym are) (left same_unit (is_unit_in game) _ keyed.units)))

  pub drop_centres : (game : List ℕ) → Executes text.drop_centres_text (Words game ∷ []) old new (Err e) → IsWant (Faulted old new) e
  drop_centres game h =
      delete_sane our_schema 4 centre_table refl refl (λ db. refl) (λ olds news. refl) refers put_centre take_centre (λ v a. refl) cast_centre centre_rules text.drop_centres_text means.drop_centres.1 (Words game ∷ []) asked.drop_centres old new good.schema up unlimited good.centres e h
      by_one (is_centre_in game) (tells_centre_in game []) means.drop_centres.0 refl (λ rows it are. centres_keyed old.now.trees unique rows it (subst (Differ same_centre) (sym are) (left same_centre (is_centre_in game) _ keyed.centres)))

  pub drop_pending : (game : List ℕ) → Executes text.drop_pending_text (Words game ∷ []) old new (Err e) → IsWant (Faulted old new) e
  drop_pending game h =
      delete_sane our_schema 5 pending_table refl refl (λ db. refl) (λ olds news. refl) refers put_pending take_pending (λ v a. refl) cast_pending pending_rules text.drop_pending_text means.drop_pending.1 (Words game ∷ []) asked.drop_pending old new good.schema up unlimited good.pending e h
      by_one (is_pending_in game) (tells_pending_in game []) means.drop_pending.0 refl (λ rows it are. pending_keyed old.now.trees unique rows it (subst (Differ same_order) (sym are) (left same_order (is_pending_in game) _ keyed.pending)))

  pub drop_orders : (game power : List ℕ) → Executes text.drop_orders_text (Words game ∷ Words power ∷ []) old new (Err e) → IsWant (Faulted old new) e
  drop_orders game power h =
      delete_sane our_schema 5 pending_table refl refl (λ db. refl) (λ olds news. refl) refers put_pending take_pending (λ v a. refl) cast_pending pending_rules text.drop_orders_text means.drop_orders.1 (Words game ∷ Words power ∷ []) asked.drop_orders old new good.schema up unlimited good.pending e h
      by_two (is_pending game power) (tells_pending game power []) means.drop_orders.0 refl (λ rows it are. pending_keyed old.now.trees unique rows it (subst (Differ same_order) (sym are) (left same_order (is_pending game power) _ keyed.pending)))

  pub drop_items : (game : List ℕ) → Executes text.drop_items_text (Words game ∷ []) old new (Err e) → IsWant (Faulted old new) e
  drop_items game h =
      delete_sane our_schema 6 box_table refl refl (λ db. refl) (λ olds news. refl) refers put_box take_box (λ v a. refl) cast_box box_rules text.drop_items_text means.drop_items.1 (Words game ∷ []) asked.drop_items old new good.schema up unlimited good.boxes e h
      by_one (is_box_in game) (tells_box_in game []) means.drop_items.0 refl (λ rows it are. boxes_keyed old.now.trees unique rows it (subst (Differ same_item) (sym are) (left same_item (is_box_in game) _ keyed.boxes)))

  pub drop_papers : (game : List ℕ) → Executes text.drop_papers_text (Words game ∷ []) old new (Err e) → IsWant (Faulted old new) e
  drop_papers game h =
      delete_sane our_schema 7 paper_table refl refl (λ db. refl) (λ olds news. refl) refers put_paper take_paper (λ v a. refl) cast_paper paper_rules text.drop_papers_text means.drop_papers.1 (Words game ∷ []) asked.drop_papers old new good.schema up unlimited good.papers e h
      by_one (is_paper_in game) (tells_paper_in game []) means.drop_papers.0 refl (λ rows it are. papers_keyed old.now.trees unique rows it (subst (Differ same_paper) (sym are) (left same_paper (is_paper_in game) _ keyed.papers)))

  pub drop_ballots : (game : List ℕ) → Executes text.drop_ballots_text (Words game ∷ []) old new (Err e) → IsWant (Faulted old new) e
  drop_ballots game h =
      delete_sane our_schema 8 ballot_table refl refl (λ db. refl) (λ olds news. refl) refers put_ballot take_ballot (λ v a. refl) cast_ballot ballot_rules text.drop_ballots_text means.drop_ballots.1 (Words game ∷ []) asked.drop_ballots old new good.schema up unlimited good.ballots e h
      by_one (is_ballot_in game) (tells_ballot_in game []) means.drop_ballots.0 refl (λ rows it are. ballots_keyed old.now.trees unique rows it (subst (Differ same_ballot) (sym are) (left same_ballot (is_ballot_in game) _ keyed.ballots)))

  pub drop_choices : (game : List ℕ) → Executes text.drop_choices_text (Words game ∷ []) old new (Err e) → IsWant (Faulted old new) e
  drop_choices game h =
      delete_sane our_schema 9 choice_table refl refl (λ db. refl) (λ olds news. refl) refers put_choice take_choice (λ v a. refl) cast_choice choice_rules text.drop_choices_text means.drop_choices.1 (Words game ∷ []) asked.drop_choices old new good.schema up unlimited good.choices e h
      by_one (is_choice_in game) (tells_choice_in game []) means.drop_choices.0 refl (λ rows it are. choices_keyed old.now.trees unique rows it (subst (Differ same_choice) (sym are) (left same_choice (is_choice_in game) _ keyed.choices)))

  pub note_desk : (last : ℕ) (kept reply : List ℕ) → Executes text.note_desk_text (Int (pos last) ∷ Bytes kept ∷ Words reply ∷ []) old new (Err e) → IsWant (Faulted old new) e
  note_desk last kept reply h =
      let more = Int (pos last) ∷ Bytes kept ∷ Words reply ∷ [] in
      let params = more in
      update_sane our_schema 0 desk_table refl refl (λ db. refl) (λ olds news. refl) refers put_desk take_desk (λ v a. refl) cast_desk desk_rules text.note_desk_text means.note_desk.1 params asked.note_desk old new good.schema up unlimited good.desk e h
      by_first (is_first) (tells_desk params) (desk_with last kept reply) text.note_desk_row (λ v a. refl) (one_desk old.now good) means.note_desk.0 refl (λ rows it are. desk_keyed old.now.trees unique rows it (subst (Differ same_desk) (sym are) (changed same_desk (is_first) (desk_with last kept reply) (λ a b. refl) (λ a b. refl) _ keyed.desk)))

  pub renew_seat : (game power digest : List ℕ) (last : ℕ) (kept reply : List ℕ) (sent items : ℕ) → Executes text.renew_seat_text (Words game ∷ Words power ∷ Bytes digest ∷ Int (pos last) ∷ Bytes kept ∷ Words reply ∷ Int (pos sent) ∷ Int (pos items) ∷ []) old new (Err e) → IsWant (Faulted old new) e
  renew_seat game power digest last kept reply sent items h =
      let more = Bytes digest ∷ Int (pos last) ∷ Bytes kept ∷ Words reply ∷ Int (pos sent) ∷ Int (pos items) ∷ [] in
      let params = Words game ∷ Words power ∷ more in
      update_sane our_schema 2 seat_table refl refl (λ db. refl) (λ olds news. refl) refers put_seat take_seat (λ v a. refl) cast_seat seat_rules text.renew_seat_text means.renew_seat.1 params asked.renew_seat old new good.schema up unlimited good.seats e h
      by_two (is_seat game power) (tells_seat game power more) (seat_with digest last kept reply sent items) text.renew_seat_row (λ v a. refl) (one_seat old.now good game power) means.renew_seat.0 refl (λ rows it are. seats_keyed old.now.trees unique rows it (subst (Differ same_seat) (sym are) (changed same_seat (is_seat game power) (seat_with digest last kept reply sent items) (λ a b. refl) (λ a b. refl) _ keyed.seats)))

  pub note_ballot : (game power names : List ℕ) → Executes text.note_ballot_text (Words game ∷ Words power ∷ Words names ∷ []) old new (Err e) → IsWant (Faulted old new) e
  note_ballot game power names h =
      let more = Words names ∷ [] in
      let params = Words game ∷ Words power ∷ more in
      update_sane our_schema 8 ballot_table refl refl (λ db. refl) (λ olds news. refl) refers put_ballot take_ballot (λ v a. refl) cast_ballot ballot_rules text.note_ballot_text means.note_ballot.1 params asked.note_ballot old new good.schema up unlimited good.ballots e h
      by_two (is_ballot game power) (tells_ballot game power more) (named names) text.note_ballot_row (λ v a. refl) (one_ballot old.now good game power) means.note_ballot.0 refl (λ rows it are. ballots_keyed old.now.trees unique rows it (subst (Differ same_ballot) (sym are) (changed same_ballot (is_ballot game power) (named names) (λ a b. refl) (λ a b. refl) _ keyed.ballots)))

  pub clear_votes : Executes text.clear_votes_text [] old new (Err e) → IsWant (Faulted old new) e
  clear_votes h =
      whole_sane our_schema 2 seat_table refl refl (λ db. refl) (λ olds news. refl) refers put_seat take_seat (λ v a. refl) cast_seat seat_rules text.clear_votes_text means.clear_votes.1 [] asked.clear_votes old new good.schema up unlimited good.seats e h
      voteless text.clear_votes_row (λ v a. refl) means.clear_votes.0 refl (λ rows it are. seats_keyed old.now.trees unique rows it (subst (Differ same_seat) (sym are) (ascending-map (λ a b. same_seat a b ≡ false) voteless _ keyed.seats)))

  pub set_version : Executes text.set_version_text [] old new (Err e) → IsWant (Faulted old new) e
  set_version h =
      update_sane our_schema 0 desk_table refl refl (λ db. refl) (λ olds news. refl) refers put_desk take_desk (λ v a. refl) cast_desk desk_rules text.set_version_text means.set_version.1 [] asked.set_version old new good.schema up unlimited good.desk e h
      by_first is_first (tells_desk []) second text.set_version_row (λ v a. refl) (one_desk old.now good) means.set_version.0 refl (λ rows it are. desk_keyed old.now.trees unique rows it (subst (Differ same_desk) (sym are) (changed same_desk is_first second (λ a b. refl) (λ a b. refl) _ keyed.desk)))

  -- the seats without votes, and the master's row of version 2, where their rows can stand
  pub fits_votes : AllByRecursion (CanStand seat_table) (map voteless_row (old.now.trees 4)) → Executes text.clear_votes_text [] old new (Err e) → IsCaused (Faulted old new) e
  fits_votes fits h =
      let wants = whole_wants put_seat take_seat (λ v a. refl) our_schema seat_table cast_seat seat_rules old.now.trees good.seats [] voteless text.clear_votes_row (λ v a. refl) in
      update_fits our_schema 2 seat_table refl refl (λ db. refl) (λ olds news. refl) refers put_seat take_seat (λ v a. refl) cast_seat seat_rules text.clear_votes_text means.clear_votes.1 [] asked.clear_votes old new good.schema up unlimited good.seats e h
      [] (λ a. true) (λ v a. refl) voteless text.clear_votes_row (λ v a. refl) means.clear_votes.0 refl
      (λ given are. wants given are (λ rows it are. seats_keyed old.now.trees unique rows it (subst (Differ same_seat) (sym are) (ascending-map (λ a b. same_seat a b ≡ false) voteless _ keyed.seats))))
      (all_unmap (CanStand seat_table) voteless_row (old.now.trees 4) fits)

  pub fits_version : AllByRecursion (CanStand desk_table) (map second_row (old.now.trees 0)) → Executes text.set_version_text [] old new (Err e) → IsCaused (Faulted old new) e
  fits_version fits h =
      let wants = update_wants put_desk take_desk (λ v a. refl) our_schema desk_table cast_desk desk_rules old.now.trees good.desk [] by_first is_first (tells_desk []) second text.set_version_row (λ v a. refl) (one_desk old.now good) in
      update_fits our_schema 0 desk_table refl refl (λ db. refl) (λ olds news. refl) refers put_desk take_desk (λ v a. refl) cast_desk desk_rules text.set_version_text means.set_version.1 [] asked.set_version old new good.schema up unlimited good.desk e h
      by_first is_first (tells_desk []) second text.set_version_row (λ v a. refl) means.set_version.0 refl
      (λ given are. wants given are (λ rows it are. desk_keyed old.now.trees unique rows it (subst (Differ same_desk) (sym are) (changed same_desk is_first second (λ a b. refl) (λ a b. refl) _ keyed.desk))))
      (all_unmap (CanStand desk_table) second_row (old.now.trees 0) fits)

  pub count_item : (game power : List ℕ) (items : ℕ) → Executes text.count_item_text (Words game ∷ Words power ∷ Int (pos items) ∷ []) old new (Err e) → IsWant (Faulted old new) e
  count_item game power items h =
      let more = Int (pos items) ∷ [] in
      let params = Words game ∷ Words power ∷ more in
      update_sane our_schema 2 seat_table refl refl (λ db. refl) (λ olds news. refl) refers put_seat take_seat (λ v a. refl) cast_seat seat_rules text.count_item_text means.count_item.1 params asked.count_item old new good.schema up unlimited good.seats e h
      by_two (is_seat game power) (tells_seat game power more) (counting items) text.count_item_row (λ v a. refl) (one_seat old.now good game power) means.count_item.0 refl (λ rows it are. seats_keyed old.now.trees unique rows it (subst (Differ same_seat) (sym are) (changed same_seat (is_seat game power) (counting items) (λ a b. refl) (λ a b. refl) _ keyed.seats)))

  pub replace_digest : (game power digest : List ℕ) → Executes text.replace_digest_text (Words game ∷ Words power ∷ Bytes digest ∷ []) old new (Err e) → IsWant (Faulted old new) e
  replace_digest game power digest h =
      let more = Bytes digest ∷ [] in
      let params = Words game ∷ Words power ∷ more in
      update_sane our_schema 2 seat_table refl refl (λ db. refl) (λ olds news. refl) refers put_seat take_seat (λ v a. refl) cast_seat seat_rules text.replace_digest_text means.replace_digest.1 params asked.replace_digest old new good.schema up unlimited good.seats e h
      by_two (is_seat game power) (tells_seat game power more) (secret_as digest) text.replace_digest_row (λ v a. refl) (one_seat old.now good game power) means.replace_digest.0 refl (λ rows it are. seats_keyed old.now.trees unique rows it (subst (Differ same_seat) (sym are) (changed same_seat (is_seat game power) (secret_as digest) (λ a b. refl) (λ a b. refl) _ keyed.seats)))

  pub renew_game : (g : GameRow) → Executes text.renew_game_text (Words g.name ∷ Int (pos g.year) ∷ Int (pos g.phase) ∷ Words g.status ∷ Int (pos g.due) ∷ Int (pos g.period) ∷ Int (pos g.grey) ∷ Int (pos g.papers) ∷ Words g.standoff ∷ []) old new (Err e) → IsWant (Faulted old new) e
  renew_game g h =
      let more = Int (pos g.year) ∷ Int (pos g.phase) ∷ Words g.status ∷ Int (pos g.due) ∷ Int (pos g.period) ∷ Int (pos g.grey) ∷ Int (pos g.papers) ∷ Words g.standoff ∷ [] in
      let params = Words g.name ∷ more in
      update_sane our_schema 1 game_table refl refl (λ db. refl) (λ olds news. refl) refers put_game take_game (λ v a. refl) cast_game game_rules text.renew_game_text means.renew_game.1 params asked.renew_game old new good.schema up unlimited good.games e h
      by_one (is_named g.name) (tells_game_in g.name more) (game_as g) text.renew_game_row (λ v a. refl) (one_game old.now good g.name) means.renew_game.0 refl (λ rows it are. games_keyed old.now.trees unique rows it (subst (Differ same_name) (sym are) (changed same_name (is_named g.name) (game_as g) (λ a b. refl) (λ a b. refl) _ keyed.games)))
