-- At most one record of a key is there, since no two agree on it.
use Rattle.std.proofs.Common.{◌≡◌, inl, ℕ, List, map, Bool, true, ◌&&◌, ◌==◌, bytes_eq, refl, sym, ◌∙◌, arith}
use Rattle.std.proofs.lemmas.Bool.Decides.{nat_tests}
use Rattle.std.proofs.lemmas.Bool.{and_parts}
use Rattle.std.proofs.lemmas.Slice.Eq.{bytes_eq-Decides}
use Rattle.sqlite.specs.Effect.{Database}
use Rattle.dip_store_sql.specs.Old.{WasGood, old_schema}
use Rattle.dip_store_sql.specs.Recorded.{AtMostOne}
use Rattle.dip_store_sql.proofs.Keyed.{ballots_differ, boxes_differ, choices_differ, desk_differ, games_differ, papers_differ, seats_differ}
use Rattle.dip_store_sql.proofs.Keys.{at_most_one}
use Rattle.dip_store_sql.specs.Schema.{our_schema}
use Rattle.dip_store_rows.specs.Tables.{DeskRow, SeatRow, BoxRow, PaperRow, BallotRow, is_ballot, is_choice_in, is_named, is_seat}
use Rattle.dip_store_rows.specs.Apart.{same_name, same_seat}
use Rattle.dip_store_sql.specs.Rows.{take_desk, take_game, take_seat, take_box, take_paper, take_ballot, take_choice}
use Rattle.dip_store_sql.specs.Good.{IsGood}
use Rattle.dip_store_sql.specs.Keys.{Differ, same_ballot, same_choice, same_desk, same_item, same_paper}
use Rattle.dip_store_sql.specs.Showing.{is_item, is_numbered}
use Rattle.dip_store_sql.specs.TablesAfter.{is_first}

alike : (a b c : List ℕ) → bytes_eq a c ≡ true → bytes_eq b c ≡ true → bytes_eq a b ≡ true
alike a b c h k = (bytes_eq-Decides a b).1 ((bytes_eq-Decides a c).0 h ∙ sym ((bytes_eq-Decides b c).0 k))

equal : (a b c : ℕ) → (a == c) ≡ true → (b == c) ≡ true → (a == b) ≡ true
equal a b c h k = grind (arith, nat_tests)

both_true : (a b : Bool) → a ≡ true → b ≡ true → (a && b) ≡ true
both_true a b h k = rw (h, k) refl

first_alone : (desks : List DeskRow) → Differ same_desk desks → AtMostOne is_first desks
first_alone desks apart = at_most_one same_desk is_first (λ a b h k. equal a.id b.id 1 h k) desks apart

-- in a store of version 1 too the master has one row
pub one_old_desk : (db : Database) → WasGood db → AtMostOne is_first (map take_desk (db.trees 0))
one_old_desk db good = first_alone _ (desk_differ old_schema (inl refl) db good.schema good.sound good.desk)

module _ (db : Database) (good : IsGood db) where
  pub one_desk : AtMostOne is_first (map take_desk (db.trees 0))
  one_desk = first_alone _ (desk_differ our_schema (inl refl) db good.schema good.sound good.desk)

  pub one_game : (name : List ℕ) → AtMostOne (is_named name) (map take_game (db.trees 2))
  one_game name = at_most_one same_name (is_named name) (λ a b h k. alike a.name b.name name h k) (map take_game (db.trees 2)) (games_differ db good)

  pub one_seat : (game power : List ℕ) → AtMostOne (is_seat game power) (map take_seat (db.trees 4))
  one_seat game power = at_most_one same_seat (is_seat game power) tied (map take_seat (db.trees 4)) (seats_differ db good)
    where
      tied : (a b : SeatRow) → is_seat game power a ≡ true → is_seat game power b ≡ true → same_seat a b ≡ true
      tied a b h k = let x = and_parts _ _ h in let y = and_parts _ _ k in both_true _ _ (alike a.game b.game game x.0 y.0) (alike a.power b.power power x.1 y.1)

  pub one_ballot : (game power : List ℕ) → AtMostOne (is_ballot game power) (map take_ballot (db.trees 16))
  one_ballot game power = at_most_one same_ballot (is_ballot game power) tied (map take_ballot (db.trees 16)) (ballots_differ db good)
    where
      tied : (a b : BallotRow) → is_ballot game power a ≡ true → is_ballot game power b ≡ true → same_ballot a b ≡ true
      tied a b h k = let x = and_parts _ _ h in let y = and_parts _ _ k in both_true _ _ (alike a.game b.game game x.0 y.0) (alike a.power b.power power x.1 y.1)

  pub one_item : (game power : List ℕ) (number : ℕ) → AtMostOne (is_item game power number) (map take_box (db.trees 12))
  one_item game power number = at_most_one same_item (is_item game power number) tied (map take_box (db.trees 12)) (boxes_differ db good)
    where
      tied : (a b : BoxRow) → is_item game power number a ≡ true → is_item game power number b ≡ true → same_item a b ≡ true
      tied a b h k =
          let x = and_parts _ _ h in let y = and_parts _ _ k in let u = and_parts _ _ x.1 in let v = and_parts _ _ y.1 in
          both_true _ _ (alike a.game b.game game x.0 y.0) (both_true _ _ (alike a.power b.power power u.0 v.0) (equal a.number b.number number u.1 v.1))

  pub one_paper : (game : List ℕ) (number : ℕ) → AtMostOne (is_numbered game number) (map take_paper (db.trees 14))
  one_paper game number = at_most_one same_paper (is_numbered game number) tied (map take_paper (db.trees 14)) (papers_differ db good)
    where
      tied : (a b : PaperRow) → is_numbered game number a ≡ true → is_numbered game number b ≡ true → same_paper a b ≡ true
      tied a b h k = let x = and_parts _ _ h in let y = and_parts _ _ k in both_true _ _ (alike a.game b.game game x.0 y.0) (equal a.number b.number number x.1 y.1)

  pub one_choice : (game : List ℕ) → AtMostOne (is_choice_in game) (map take_choice (db.trees 18))
  one_choice game = at_most_one same_choice (is_choice_in game) (λ a b h k. alike a.game b.game game h k) (map take_choice (db.trees 18)) (choices_differ db good)
