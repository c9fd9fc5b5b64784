-- What each query answers.
use Rattle.std.proofs.Common.{◌≡◌, ℕ, pos, true, List, [], ◌∷◌, map, filter, option_map, option_to_list, refl, ap, ◌∙◌}
use Rattle.std.specs.List.{find}
use Rattle.sqlite.specs.declared.types.Value.TheVariants.{Int, Text as Words}
use Rattle.sqlite.specs.Order.{Row}
use Rattle.sqlite.specs.State.{State, Shown}
use Rattle.dip_store_sql.specs.Asking.{by_one, by_two, by_three, by_first}
use Rattle.dip_store_sql.specs.Statements as text
use Rattle.dip_store_sql.proofs.Texts as means
use Rattle.dip_store_rows.specs.Tables.{is_ballot, is_choice_in, is_named, is_seat, is_seat_in, is_unit_in, is_centre_in, is_pending}
use Rattle.dip_store_sql.specs.Rows.{tables_of, put_desk, take_desk, put_game, take_game, put_seat, take_seat, put_unit, take_unit, put_centre, take_centre, put_pending, take_pending, put_box, take_box, put_paper, take_paper, put_ballot, take_ballot, put_choice, take_choice}
use Rattle.dip_store_sql.specs.Good.{IsGood}
use Rattle.dip_store_sql.specs.Old.{WasGood, old_tables_of}
use Rattle.dip_store_sql.specs.Showing.{show_desk, show_game, show_seat, show_digest, show_item, show_paper, show_listed, show_unit, show_centre, show_order, show_ballot, show_choice, show_name, show_vote, is_item, is_numbered}
use Rattle.dip_store_sql.specs.TablesAfter.{is_first}
use Rattle.dip_store_sql.proofs.Apart.{one_ballot, one_choice, one_desk, one_old_desk, one_game, one_seat, one_item, one_paper}
use Rattle.dip_store_sql.proofs.Telling.{tells_ballot, tells_choice_in, tells_desk, tells_game_in, tells_seat_in, tells_unit_in, tells_centre_in, tells_seat, tells_pending, tells_item, tells_paper}
use Rattle.dip_store_sql.proofs.Found.{one_found, all_found}

-- where nothing is asked for, each row passes
all_pass : {A : Type 0} (xs : List A) → filter (λ x. true) xs ≡ xs
all_pass [] = refl
all_pass (x ∷ xs) = ap (λ ys. x ∷ ys) (all_pass xs)

module _ (old new : State) (good : IsGood old.now) where
  pub find_desk : (rows : List Row) → Shown text.find_desk_text ([]) old new rows → rows ≡ option_to_list (option_map show_desk (find is_first (tables_of old.now.trees).desk))
  find_desk rows h =
      one_found put_desk take_desk 0 by_first text.find_desk_shown ([]) is_first show_desk (tells_desk []) (λ v a. refl) text.find_desk_text 0 _ old new good.schema refl good.desk
      means.find_desk (one_desk old.now good) rows h

  pub find_game : (game : List ℕ) (rows : List Row) → Shown text.find_game_text (Words game ∷ []) old new rows → rows ≡ option_to_list (option_map show_game (find (is_named game) (tables_of old.now.trees).games))
  find_game game rows h =
      one_found put_game take_game 2 by_one text.find_game_shown (Words game ∷ []) (is_named game) show_game (tells_game_in game []) (λ v a. refl) text.find_game_text 1 _ old new good.schema refl good.games
      means.find_game (one_game old.now good game) rows h

  pub find_seat : (game : List ℕ) (power : List ℕ) (rows : List Row) → Shown text.find_seat_text (Words game ∷ Words power ∷ []) old new rows → rows ≡ option_to_list (option_map show_seat (find (is_seat game power) (tables_of old.now.trees).seats))
  find_seat game power rows h =
      one_found put_seat take_seat 4 by_two text.find_seat_shown (Words game ∷ Words power ∷ []) (is_seat game power) show_seat (tells_seat game power []) (λ v a. refl) text.find_seat_text 2 _ old new good.schema refl good.seats
      means.find_seat (one_seat old.now good game power) rows h

  pub find_digest : (game : List ℕ) (power : List ℕ) (rows : List Row) → Shown text.find_digest_text (Words game ∷ Words power ∷ []) old new rows → rows ≡ option_to_list (option_map show_digest (find (is_seat game power) (tables_of old.now.trees).seats))
  find_digest game power rows h =
      one_found put_seat take_seat 4 by_two text.find_digest_shown (Words game ∷ Words power ∷ []) (is_seat game power) show_digest (tells_seat game power []) (λ v a. refl) text.find_digest_text 2 _ old new good.schema refl good.seats
      means.find_digest (one_seat old.now good game power) rows h

  pub find_item : (game : List ℕ) (power : List ℕ) (number : ℕ) (rows : List Row) → Shown text.find_item_text (Words game ∷ Words power ∷ Int (pos number) ∷ []) old new rows → rows ≡ option_to_list (option_map show_item (find (is_item game power number) (tables_of old.now.trees).boxes))
  find_item game power number rows h =
      one_found put_box take_box 12 by_three text.find_item_shown (Words game ∷ Words power ∷ Int (pos number) ∷ []) (is_item game power number) show_item (tells_item game power [] number) (λ v a. refl) text.find_item_text 3 _ old new good.schema refl good.boxes
      means.find_item (one_item old.now good game power number) rows h

  pub find_paper : (game : List ℕ) (number : ℕ) (rows : List Row) → Shown text.find_paper_text (Words game ∷ Int (pos number) ∷ []) old new rows → rows ≡ option_to_list (option_map show_paper (find (is_numbered game number) (tables_of old.now.trees).papers))
  find_paper game number rows h =
      one_found put_paper take_paper 14 by_two text.find_paper_shown (Words game ∷ Int (pos number) ∷ []) (is_numbered game number) show_paper (tells_paper game number []) (λ v a. refl) text.find_paper_text 2 _ old new good.schema refl good.papers
      means.find_paper (one_paper old.now good game number) rows h

  pub list_seats : (game : List ℕ) (rows : List Row) → Shown text.list_seats_text (Words game ∷ []) old new rows → rows ≡ map show_listed (filter (is_seat_in game) (tables_of old.now.trees).seats)
  list_seats game rows h =
      all_found put_seat take_seat 4 by_one text.list_seats_shown (Words game ∷ []) (is_seat_in game) show_listed (tells_seat_in game []) (λ v a. refl) text.list_seats_text 1 _ old new good.schema refl good.seats
      means.list_seats rows h

  pub list_units : (game : List ℕ) (rows : List Row) → Shown text.list_units_text (Words game ∷ []) old new rows → rows ≡ map show_unit (filter (is_unit_in game) (tables_of old.now.trees).units)
  list_units game rows h =
      all_found put_unit take_unit 6 by_one text.list_units_shown (Words game ∷ []) (is_unit_in game) show_unit (tells_unit_in game []) (λ v a. refl) text.list_units_text 1 _ old new good.schema refl good.units
      means.list_units rows h

  pub list_centres : (game : List ℕ) (rows : List Row) → Shown text.list_centres_text (Words game ∷ []) old new rows → rows ≡ map show_centre (filter (is_centre_in game) (tables_of old.now.trees).centres)
  list_centres game rows h =
      all_found put_centre take_centre 8 by_one text.list_centres_shown (Words game ∷ []) (is_centre_in game) show_centre (tells_centre_in game []) (λ v a. refl) text.list_centres_text 1 _ old new good.schema refl good.centres
      means.list_centres rows h

  pub list_orders : (game : List ℕ) (power : List ℕ) (rows : List Row) → Shown text.list_orders_text (Words game ∷ Words power ∷ []) old new rows → rows ≡ map show_order (filter (is_pending game power) (tables_of old.now.trees).pending)
  list_orders game power rows h =
      all_found put_pending take_pending 10 by_two text.list_orders_shown (Words game ∷ Words power ∷ []) (is_pending game power) show_order (tells_pending game power []) (λ v a. refl) text.list_orders_text 2 _ old new good.schema refl good.pending
      means.list_orders rows h

  pub find_ballot : (game : List ℕ) (power : List ℕ) (rows : List Row) → Shown text.find_ballot_text (Words game ∷ Words power ∷ []) old new rows → rows ≡ option_to_list (option_map show_ballot (find (is_ballot game power) (tables_of old.now.trees).ballots))
  find_ballot game power rows h =
      one_found put_ballot take_ballot 16 by_two text.find_ballot_shown (Words game ∷ Words power ∷ []) (is_ballot game power) show_ballot (tells_ballot game power []) (λ v a. refl) text.find_ballot_text 2 _ old new good.schema refl good.ballots
      means.find_ballot (one_ballot old.now good game power) rows h

  pub find_choice : (game : List ℕ) (rows : List Row) → Shown text.find_choice_text (Words game ∷ []) old new rows → rows ≡ option_to_list (option_map show_choice (find (is_choice_in game) (tables_of old.now.trees).choices))
  find_choice game rows h =
      one_found put_choice take_choice 18 by_one text.find_choice_shown (Words game ∷ []) (is_choice_in game) show_choice (tells_choice_in game []) (λ v a. refl) text.find_choice_text 1 _ old new good.schema refl good.choices
      means.find_choice (one_choice old.now good game) rows h

-- in a store of version 1; the rows of its games and seats are listed whole
module _ (old new : State) (good : WasGood old.now) where
  pub find_old_desk : (rows : List Row) → Shown text.find_desk_text [] old new rows → rows ≡ option_to_list (option_map show_desk (find is_first (old_tables_of old.now.trees).desk))
  find_old_desk rows h =
      one_found put_desk take_desk 0 by_first text.find_desk_shown [] is_first show_desk (tells_desk []) (λ v a. refl) text.find_desk_text 0 _ old new good.schema refl good.desk
      means.find_old_desk (one_old_desk old.now good) rows h

  pub list_games : (rows : List Row) → Shown text.list_games_text [] old new rows → rows ≡ map show_name (old_tables_of old.now.trees).games
  list_games rows h =
      all_found put_game take_game 2 [] text.list_games_shown [] (λ g. true) show_name (λ v g. refl) (λ v a. refl) text.list_games_text 0 _ old new good.schema refl good.games
      means.list_games rows h
      ∙ ap (map show_name) (all_pass (old_tables_of old.now.trees).games)

  pub list_votes : (rows : List Row) → Shown text.list_votes_text [] old new rows → rows ≡ map show_vote (old_tables_of old.now.trees).seats
  list_votes rows h =
      all_found put_seat take_seat 4 [] text.list_votes_shown [] (λ s. true) show_vote (λ v s. refl) (λ v a. refl) text.list_votes_text 0 _ old new good.schema refl good.seats
      means.list_votes rows h
      ∙ ap (map show_vote) (all_pass (old_tables_of old.now.trees).seats)
