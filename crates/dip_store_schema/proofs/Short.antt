-- Tables of version 1 whose texts are short can be made anew.
use Rattle.std.proofs.Common.{◌≡◌, ◌≤◌, ◌^◌, ◌+◌, ◌==◌, ℕ, suc, pos, Bool, true, false, List, [], ◌∷◌, map, length, codes, if◌then◌else◌, sym, ap, subst, arith}
use Rattle.std.specs.List.{AllByRecursion}
use Rattle.std.proofs.lemmas.List.{length-map}
use Rattle.sqlite.specs.declared.types.Value.TheVariants.{Int}
use Rattle.sqlite.specs.Edit.{id_in}
use Rattle.sqlite.specs.Effect.{Database}
use Rattle.sqlite.specs.Ops.{fits_i64}
use Rattle.sqlite.specs.Order.{Row}
use Rattle.sqlite.specs.Table.{Table}
use Rattle.sqlite.specs.Tree.{rowid}
use Rattle.dip_store_tables.proofs.ListLemmas.{all_both, all_map, all_unmap, all_weaker}
use Rattle.dip_store_tables.specs.Renewing.{old_ballot, old_choice, second, voteless}
use Rattle.dip_store_tables.specs.Tables.{ChoiceRow, GameRow, SeatRow}
use Rattle.dip_store_sql.specs.Old.{WasGood, old_tables_of}
use Rattle.dip_store_sql.specs.Rows.{put_ballot, put_choice, put_desk, put_seat, take_desk, take_seat}
use Rattle.dip_store_sql.specs.Schema.{ballot_table, choice_table, desk_table, seat_table}
use Rattle.dip_store_sql.specs.Storing.{CanStand, IsShortBallot, IsShortDesk, IsShortSeat, second_row, voteless_row}
use Rattle.dip_store_sql.proofs.Short.{ballot_stands_short, choice_stands_short, desk_stands_short, fits_number, seat_stands_short}
use Rattle.dip_store_schema.specs.Renewing.{AreShort, HasRoomAnew, rows_from}

-- rows that are numbered from here on, where there are numbers for them
rows_stand : {A : Type 0} (table : Table) (put : A → Row) (Short : A → Type 0) → ((n : ℕ) (x : A) → fits_i64 (pos n) ≡ true → Short x → CanStand table (Int (pos n) ∷ put x))
    → (xs : List A) (n : ℕ) → n + length xs ≤ 2 ^ 63 → AllByRecursion Short xs → AllByRecursion (CanStand table) (rows_from n put xs)
rows_stand table put Short each [] n low all = tt
rows_stand table put Short each (x ∷ xs) n low all = (each n x (fits_number n (omega (arith, low))) all.0, rows_stand table put Short each xs (suc n) (omega (arith, low)) all.1)

short_names : (none : Bool) → length (if none then codes "NO" else codes "YES") ≤ 10 ^ 8
short_names true = omega arith
short_names false = omega arith

short_ballot : (s : SeatRow) → IsShortSeat s → IsShortBallot (old_ballot s)
short_ballot s it = record { game = it.game; power = it.power; names = short_names (s.vote == 0) }

module _ (db : Database) (good : WasGood db) (short : AreShort db.trees) where
  seats_stand : AllByRecursion (CanStand seat_table) (map voteless_row (db.trees 4))
  seats_stand =
      let texts = all_unmap IsShortSeat take_seat (db.trees 4) short.seats in
      let both = all_both (λ r. r ≡ Int (id_in (rowid r)) ∷ put_seat (take_seat r)) (λ r. IsShortSeat (take_seat r)) (λ r. (rowid r ≡ Int (id_in (rowid r))) × IsShortSeat (take_seat r)) (λ r e it. (ap rowid e, it)) (db.trees 4) good.seats.typed texts in
      all_map (CanStand seat_table) voteless_row (db.trees 4)
      (all_both (λ r. (rowid r ≡ Int (id_in (rowid r))) × IsShortSeat (take_seat r)) (λ r. fits_i64 (id_in (rowid r)) ≡ true) (λ r. CanStand seat_table (voteless_row r)) one (db.trees 4) both short.seat_numbers)
    where
      one : (r : Row) → (rowid r ≡ Int (id_in (rowid r))) × IsShortSeat (take_seat r) → fits_i64 (id_in (rowid r)) ≡ true → CanStand seat_table (voteless_row r)
      one r it fits =
          let text = it.1 in
          subst (λ v. CanStand seat_table (v ∷ put_seat (voteless (take_seat r)))) (sym it.0)
          (seat_stands_short (id_in (rowid r)) fits (voteless (take_seat r)) (record { game = text.game; power = text.power; digest = text.digest; kept = text.kept; reply = text.reply }))

  desk_stands : AllByRecursion (CanStand desk_table) (map second_row (db.trees 0))
  desk_stands =
      let texts = all_unmap IsShortDesk take_desk (db.trees 0) short.desk in
      let both = all_both (λ r. r ≡ Int (id_in (rowid r)) ∷ put_desk (take_desk r)) (λ r. IsShortDesk (take_desk r)) (λ r. (rowid r ≡ Int (id_in (rowid r))) × IsShortDesk (take_desk r)) (λ r e it. (ap rowid e, it)) (db.trees 0) good.desk.typed texts in
      all_map (CanStand desk_table) second_row (db.trees 0)
      (all_both (λ r. (rowid r ≡ Int (id_in (rowid r))) × IsShortDesk (take_desk r)) (λ r. fits_i64 (id_in (rowid r)) ≡ true) (λ r. CanStand desk_table (second_row r)) one (db.trees 0) both short.desk_numbers)
    where
      one : (r : Row) → (rowid r ≡ Int (id_in (rowid r))) × IsShortDesk (take_desk r) → fits_i64 (id_in (rowid r)) ≡ true → CanStand desk_table (second_row r)
      one r it fits =
          let text = it.1 in
          subst (λ v. CanStand desk_table (v ∷ put_desk (second (take_desk r)))) (sym it.0)
          (desk_stands_short (id_in (rowid r)) fits (second (take_desk r)) (record { map = text.map; digest = text.digest; kept = text.kept; reply = text.reply }))

  pub short_room : HasRoomAnew db.trees
  short_room =
      let t = old_tables_of db.trees in
      let seats = short.few_seats in
      let games = short.few_games in
      let short_choices = all_map (λ (x : ChoiceRow). length x.game ≤ 10 ^ 8) (λ (g : GameRow). old_choice g.name) t.games short.games in
      record {
        ballots = rows_stand ballot_table put_ballot IsShortBallot (λ n b fits it. ballot_stands_short (pos n) fits b it) (map old_ballot t.seats) 1 (omega (arith, seats, length-map t.seats old_ballot))
            (all_map IsShortBallot old_ballot t.seats (all_weaker IsShortSeat (λ s. IsShortBallot (old_ballot s)) short_ballot t.seats short.seats));
        choices = rows_stand choice_table put_choice (λ x. length x.game ≤ 10 ^ 8) (λ n x fits it. choice_stands_short (pos n) fits x it) (map (λ g. old_choice g.name) t.games) 1
            (omega (arith, games, length-map t.games (λ (g : GameRow). old_choice g.name))) short_choices;
        seats = seats_stand;
        desk = desk_stands;
      }
