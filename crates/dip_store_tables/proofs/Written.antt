-- After a change each row is still that of a record of the map.
use Rattle.std.proofs.Common.{◌≡◌, ℕ, ◌<◌, ◌^◌, ◌==◌, Bool, true, false, cond, not, List, [], ◌∷◌, ◌++◌, map, filter, length, Some, None, bytes_eq, codes, refl, sym, ap₂, subst, ◌∙◌}
use Rattle.std.specs.List.{AllByRecursion}
use Rattle.std.proofs.lemmas.Bool.{cond_both}
use Rattle.sqlite_trees.specs.Tree.{IsAscending}
use Rattle.sqlite_keyed.specs.Lists.{delete_where}
use Rattle.sqlite_keyed.proofs.ListLemmas.{all-append, all-filter, all-map, all_both, all_map, all_weaker}
use Rattle.dip_map.specs.Charts.{Chart}
use Rattle.dip_map.specs.Boards.{IsOf}
use Rattle.dip_store_tables.specs.Boards.{UnitRow, CentreRow, power_name, unit_rows, centre_rows}
use Rattle.dip_desk_state.specs.State.{Author, Nobody, TheMaster, Seat, Effect, Nothing, Pending, Votes, Delivers, Opens, Publishes, Seats}
use Rattle.dip_desk_state.proofs.KeyedLemmas.{names_tell}
use Rattle.dip_desk_state.specs.Records.{Public, Item, White, Grey, Kept, No}
use Rattle.dip_store_tables.specs.Changing.{noting, ordering, reaching, is_reader, one_more}
use Rattle.dip_store_tables.specs.Coding.{IsEffectOf, same_name}
use Rattle.dip_desk_state.specs.Writable.{IsPlainItem, IsStatusOf}
use Rattle.dip_store_tables.specs.ChangeColumns.{FitsColumns, IsEffectNarrow, IsNarrow}
use Rattle.dip_store_tables.specs.Laws.{TablesStayWritten}
use Rattle.dip_store_rows.specs.Tables.{GameRow, SeatRow, ChoiceRow, Tables, is_named, is_choice_in, is_seat, is_seat_in, is_unit_in, is_centre_in, is_pending, is_pending_in, is_box_in, is_ballot, is_ballot_in}
use Rattle.dip_store_tables.specs.Writing.{as_printed, ballot_noted, ballot_row, choice_row, desk_noted, game_row, next_row, pending_row, seat_effect, seat_kept, seat_noted, seat_row, whole_reply}
use Rattle.dip_store_tables.specs.Votes.{IsBallotText}
use Rattle.dip_store_tables.specs.Written.{AreWritten, IsDeskWritten, IsGameWritten, IsItemWritten, IsOrderWritten, IsSeatWritten}
use Rattle.dip_store_tables.proofs.Anew.{other_choice, put_choice, put_mine, put_other, units_of_game, centres_of_game}
use Rattle.dip_store_tables.proofs.Authors.{authored, ordering_alone}
use Rattle.dip_store_tables.proofs.Openings.{ends_apart}
use Rattle.dip_store_tables.proofs.Seats.{both_same}

-- where some rows are changed, each is as it was to be
module _ {A : Type 0} (P : A → Type 0) (test : A → Bool) (f : A → A) where
  all_changed : ((x : A) → test x ≡ true → P x → P (f x)) → (xs : List A) → AllByRecursion P xs → AllByRecursion P (map (λ x. cond (test x) (f x) x) xs)
  all_changed step xs all =
      all_map P (λ x. cond (test x) (f x) x) xs
      (all_weaker P (λ x. P (cond (test x) (f x) x)) (λ x it. cond_both (test x) (f x) x P (λ e. step x e it) (λ e. it)) xs all)

-- rows that are left
left : {A : Type 0} (P : A → Type 0) (test : A → Bool) (xs : List A) → AllByRecursion P xs → AllByRecursion P (delete_where test xs)
left P test xs all = all-filter P (λ x. not (test x)) xs all

-- what an effect does to its author's row
effect_written : (e : Effect) (s : SeatRow) → IsSeatWritten s → IsSeatWritten (seat_effect e s)
effect_written Nothing s it = it
effect_written (Pending orders) s it = it
effect_written (Votes vote) s it = it
effect_written (Delivers readers item) s it = record { digest = it.digest; vote = it.vote; letter = it.letter }
effect_written (Opens public paper seats) s it = it
effect_written (Publishes public paper played) s it = it
effect_written (Seats seat) s it = it

module _ (m : Chart) (name : List ℕ) (k : Kept) (numbered : (k.number == 0) ≡ false) (small : k.number < 2 ^ 32) (wide : length k.sum ≡ 32) (e : Effect) (fits : IsEffectOf m e) where
  noted_seat : (power : List ℕ) (s : SeatRow) → is_seat name power s ≡ true → IsSeatWritten s → IsSeatWritten (seat_noted (as_printed name power k) e s)
  noted_seat power s mine it =
      let same = both_same s.game s.power name power mine in
      let kept : IsSeatWritten (seat_kept (as_printed name power k) s) =
      record { digest = it.digest; vote = it.vote; letter = (Some k, (numbered, small, refl, refl, wide, ap₂ (λ g p. whole_reply g p k) (sym same.0) (sym same.1))) } in
      effect_written e (seat_kept (as_printed name power k) s) kept

  noted_written : (who : Author) (t : Tables) → AreWritten m t → AreWritten m (noting m who name k e t)
  noted_written Nobody t it = it
  noted_written TheMaster t it = record {
    desk = all_changed IsDeskWritten (λ d. d.id == 1) (desk_noted (as_printed name (codes "master") k))
        (λ d mine old. record { digest = old.digest; letter = (name, Some k, (numbered, small, refl, refl, wide, refl)) }) t.desk it.desk;
    games = it.games;
    seats = it.seats;
    pending = it.pending;
    boxes = it.boxes;
    ballots = it.ballots;
  }
  noted_written (Seat power) t it = record {
    desk = it.desk;
    games = it.games;
    seats = all_changed IsSeatWritten (is_seat name (power_name m power)) (seat_noted (as_printed name (power_name m power) k) e) (noted_seat (power_name m power)) t.seats it.seats;
    pending = it.pending;
    boxes = it.boxes;
    ballots = it.ballots;
  }

  ordered_written : (who : Author) (d : Effect) (t : Tables) → IsEffectOf m d → AllByRecursion (IsOrderWritten m) t.pending → AllByRecursion (IsOrderWritten m) (ordering m who name d t).pending
  ordered_written who Nothing t low all = all
  ordered_written Nobody (Pending orders) t low all = all
  ordered_written TheMaster (Pending orders) t low all = all
  ordered_written (Seat power) (Pending orders) t low all =
      all-append (IsOrderWritten m) (delete_where (is_pending name (power_name m power)) t.pending) (map (pending_row m name (power_name m power)) orders)
      (left (IsOrderWritten m) (is_pending name (power_name m power)) t.pending all)
      (all_map (IsOrderWritten m) (pending_row m name (power_name m power)) orders
      (all_weaker _ (λ o. IsOrderWritten m (pending_row m name (power_name m power) o)) (λ o h. (o.province, h, refl)) orders low))
  ordered_written Nobody (Votes vote) t low all = all
  ordered_written TheMaster (Votes vote) t low all = all
  ordered_written (Seat power) (Votes vote) t low all = all
  ordered_written who (Delivers readers item) t low all = all
  ordered_written who (Opens public paper seats) t low all = all
  ordered_written who (Publishes public paper played) t low all = all
  ordered_written who (Seats seat) t low all = all

  ordered_ballots : (who : Author) (d : Effect) (t : Tables) → IsEffectOf m d → AllByRecursion (λ b. IsBallotText m b.names) t.ballots → AllByRecursion (λ b. IsBallotText m b.names) (ordering m who name d t).ballots
  ordered_ballots who Nothing t low all = all
  ordered_ballots Nobody (Pending orders) t low all = all
  ordered_ballots TheMaster (Pending orders) t low all = all
  ordered_ballots (Seat power) (Pending orders) t low all = all
  ordered_ballots Nobody (Votes vote) t low all = all
  ordered_ballots TheMaster (Votes vote) t low all = all
  ordered_ballots (Seat power) (Votes vote) t low all =
      all_changed (λ b. IsBallotText m b.names) (is_ballot name (power_name m power)) (ballot_noted m vote) (λ b mine old. (vote, low, refl)) t.ballots all
  ordered_ballots who (Delivers readers item) t low all = all
  ordered_ballots who (Opens public paper seats) t low all = all
  ordered_ballots who (Publishes public paper played) t low all = all
  ordered_ballots who (Seats seat) t low all = all

  mid_written : (who : Author) (t : Tables) → AreWritten m t → AreWritten m (authored m who name k e t)
  mid_written who t it =
      let u = noting m who name k e t in
      let v = authored m who name k e t in
      let alone = ordering_alone m who name e u in
      let has = noted_written who t it in
      record {
        desk = subst (AllByRecursion IsDeskWritten) (sym alone.desk) has.desk;
        games = subst (λ us. AllByRecursion (IsGameWritten m us v.centres v.choices) v.games) (sym alone.units)
            (subst (λ cs. AllByRecursion (IsGameWritten m u.units cs v.choices) v.games) (sym alone.centres)
            (subst (λ os. AllByRecursion (IsGameWritten m u.units u.centres os) v.games) (sym alone.choices)
            (subst (AllByRecursion (IsGameWritten m u.units u.centres u.choices)) (sym alone.games) has.games)));
        seats = subst (AllByRecursion IsSeatWritten) (sym alone.seats) has.seats;
        pending = ordered_written who e u fits has.pending;
        boxes = subst (AllByRecursion IsItemWritten) (sym alone.boxes) has.boxes;
        ballots = ordered_ballots who e u fits has.ballots;
      }

-- rows of one game are put in anew
module _ (m : Chart) (name : List ℕ) (p : Public) (of_map : IsOf m p.board) (status : IsStatusOf m p.status) (due : p.due < 2 ^ 63) (narrow : IsNarrow p) (t : Tables) where
  abbrev units : List UnitRow
  units = delete_where (is_unit_in name) t.units ++ unit_rows m name p.board

  abbrev centres : List CentreRow
  centres = delete_where (is_centre_in name) t.centres ++ centre_rows m name p.board

  abbrev choices : List ChoiceRow
  choices = delete_where (is_choice_in name) t.choices ++ choice_row name p.board.intent ∷ []

  my_game : IsGameWritten m units centres choices (game_row m name p)
  my_game = record {
    public = p;
    board = of_map;
    status = status;
    due = due;
    narrow = narrow;
    row = refl;
    its_units = put_mine (λ (u : UnitRow). u.game) name t.units (unit_rows m name p.board) (units_of_game m name p.board);
    its_centres = put_mine (λ (c : CentreRow). c.game) name t.centres (centre_rows m name p.board) (centres_of_game m name p.board);
    its_choice = put_choice name p.board.intent t.choices;
  }

  other_game : (g : GameRow) → bytes_eq g.name name ≡ false → IsGameWritten m t.units t.centres t.choices g → IsGameWritten m units centres choices g
  other_game g far it = record {
    public = it.public;
    board = it.board;
    status = it.status;
    due = it.due;
    narrow = it.narrow;
    row = it.row;
    its_units = put_other (λ (u : UnitRow). u.game) g.name name t.units (unit_rows m name p.board) (units_of_game m name p.board) far ∙ it.its_units;
    its_centres = put_other (λ (c : CentreRow). c.game) g.name name t.centres (centre_rows m name p.board) (centres_of_game m name p.board) far ∙ it.its_centres;
    its_choice = other_choice g.name name p.board.intent t.choices far ∙ it.its_choice;
  }

  opened_games : IsAscending (λ a b. same_name a b ≡ false) (t.games ++ game_row m name p ∷ []) → AllByRecursion (IsGameWritten m t.units t.centres t.choices) t.games
      → AllByRecursion (IsGameWritten m units centres choices) (t.games ++ game_row m name p ∷ [])
  opened_games later all =
      all-append (IsGameWritten m units centres choices) t.games (game_row m name p ∷ [])
      (all_both (λ g. bytes_eq g.name name ≡ false) (IsGameWritten m t.units t.centres t.choices) (IsGameWritten m units centres choices) other_game t.games (ends_apart t.games (game_row m name p) later) all)
      (my_game, tt)

  published_game : (g : GameRow) → IsGameWritten m t.units t.centres t.choices g → IsGameWritten m units centres choices (cond (is_named name g) (game_row m g.name p) g)
  published_game g it =
      cond_both (is_named name g) (game_row m g.name p) g (IsGameWritten m units centres choices)
      (λ e. subst (λ n. IsGameWritten m units centres choices (game_row m n p)) (sym (names_tell.same g.name name e)) my_game) (λ e. other_game g e it)

  published_games : AllByRecursion (IsGameWritten m t.units t.centres t.choices) t.games → AllByRecursion (IsGameWritten m units centres choices) (map (λ g. cond (is_named name g) (game_row m g.name p) g) t.games)
  published_games all =
      all_map (IsGameWritten m units centres choices) (λ g. cond (is_named name g) (game_row m g.name p) g) t.games
      (all_weaker (IsGameWritten m t.units t.centres t.choices) (λ g. IsGameWritten m units centres choices (cond (is_named name g) (game_row m g.name p) g)) published_game t.games all)

-- an item's row is that of the item
item_written : (item : Item) → IsPlainItem item → (s : SeatRow) → IsItemWritten (next_row item s)
item_written (White writer addressees text) plain s = (White writer addressees text, plain, refl)
item_written (Grey to_all text) plain s = (Grey to_all text, plain, refl)

module _ (m : Chart) (name : List ℕ) (t : Tables) (it : AreWritten m t) where
  reached_written : (e : Effect) → IsEffectOf m e → FitsColumns e → IsEffectNarrow e → IsAscending (λ a b. same_name a b ≡ false) (reaching m name e t).games → AreWritten m (reaching m name e t)
  reached_written Nothing fits column wide later = it
  reached_written (Pending orders) fits column wide later = it
  reached_written (Votes vote) fits column wide later = it
  reached_written (Delivers readers item) fits column wide later = record {
    desk = it.desk;
    games = it.games;
    seats = all_changed IsSeatWritten (is_reader m name readers) one_more (λ s e old. record { digest = old.digest; vote = old.vote; letter = old.letter }) t.seats it.seats;
    pending = it.pending;
    boxes = all-append IsItemWritten t.boxes (map (next_row item) (filter (is_reader m name readers) t.seats)) it.boxes
        (all-map IsItemWritten (next_row item) (item_written item fits) (filter (is_reader m name readers) t.seats));
    ballots = it.ballots;
  }
  reached_written (Opens p paper seats) fits column wide later = record {
    desk = it.desk;
    games = opened_games m p.game p fits.0 fits.1 column.0 wide.0 t later it.games;
    seats = all-append IsSeatWritten (delete_where (is_seat_in p.game) t.seats) (map (seat_row m p.game) seats) (left IsSeatWritten (is_seat_in p.game) t.seats it.seats)
        (all_map IsSeatWritten (seat_row m p.game) seats
        (all_weaker _ (λ s. IsSeatWritten (seat_row m p.game s)) (λ s h. record { digest = h; vote = refl; letter = (None, (refl, refl, refl)) }) seats wide.1));
    pending = left (IsOrderWritten m) (is_pending_in p.game) t.pending it.pending;
    boxes = left IsItemWritten (is_box_in p.game) t.boxes it.boxes;
    ballots = all-append (λ b. IsBallotText m b.names) (delete_where (is_ballot_in p.game) t.ballots) (map (ballot_row m p.game) seats)
        (left (λ b. IsBallotText m b.names) (is_ballot_in p.game) t.ballots it.ballots) (all-map (λ b. IsBallotText m b.names) (ballot_row m p.game) (λ s. (No, tt, refl)) seats);
  }
  reached_written (Publishes p paper played) fits column wide later = record {
    desk = it.desk;
    games = published_games m name p fits.0 fits.1 column wide t it.games;
    seats = it.seats;
    pending = cond_both played (delete_where (is_pending_in name) t.pending) t.pending (AllByRecursion (IsOrderWritten m))
        (λ e. left (IsOrderWritten m) (is_pending_in name) t.pending it.pending) (λ e. it.pending);
    boxes = it.boxes;
    ballots = it.ballots;
  }
  reached_written (Seats seat) fits column wide later = record {
    desk = it.desk;
    games = it.games;
    seats = all_changed IsSeatWritten (is_seat name (power_name m seat.power)) (λ s. record s { digest = seat.digest })
        (λ s e old. record { digest = wide; vote = old.vote; letter = old.letter }) t.seats it.seats;
    pending = it.pending;
    boxes = it.boxes;
    ballots = it.ballots;
  }

pub tables_stay_written : (m : Chart) → TablesStayWritten m
tables_stay_written m c t fits wide later it =
    let u = authored m c.author c.game c.kept c.effect t in
    reached_written m c.game u (mid_written m c.game c.kept fits.0.numbered wide.0 wide.1 c.effect fits.0.effect c.author t it) c.effect fits.0.effect fits.1 wide.2 later.games
