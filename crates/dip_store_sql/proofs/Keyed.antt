-- In the tables of a database no key comes twice.
use Rattle.std.proofs.Common.{◌≡◌, ℕ, List, Bool, ◌==◌, ◌&&◌, inl, inr, [], ◌∷◌, ◌++◌, map, true, false, bytes_eq, refl, ap, ap₂, subst, ◌∙◌}
use Rattle.std.specs.List.{AllByRecursion}
use Rattle.sqlite.specs.Effect.{Database, IsDatabase}
use Rattle.sqlite.specs.Order.{Row}
use Rattle.sqlite.specs.Schema.{Schema}
use Rattle.sqlite.specs.declared.types.Value.{Value}
use Rattle.sqlite_schema.specs.Rules.{agree}
use Rattle.sqlite_rules.specs.Lists.{Has}
use Rattle.sqlite_value.specs.Keys.{first_key}
use Rattle.sqlite_catalog.specs.Listing.{IsSound}
use Rattle.dip_store_sql.proofs.Keys.{apart_in}
use Rattle.dip_store_sql.proofs.Tests.{text_test, number_test, and_all, and_both, and_true}
use Rattle.dip_store_sql.specs.Schema.{our_schema, desk_table, game_table, seat_table, unit_table, centre_table, pending_table, box_table, paper_table, ballot_table, choice_table}
use Rattle.dip_store_rows.specs.Apart.{AreApart, same_name, same_seat}
use Rattle.dip_store_sql.specs.Good.{IsGood}
use Rattle.dip_store_sql.specs.Recorded.{IsRising}
use Rattle.dip_store_sql.specs.Rows.{tables_of, put_desk, take_desk, put_game, take_game, put_seat, take_seat, put_unit, take_unit, put_centre, take_centre, put_pending, take_pending, put_box, take_box, put_paper, take_paper, put_ballot, take_ballot, put_choice, take_choice}
use Rattle.dip_store_sql.specs.Keys.{AreKeyed, Differ, same_ballot, same_centre, same_choice, same_desk, same_item, same_order, same_paper, same_unit}

-- two rows agree in a key's columns exactly where their records are the same by it
abbrev Tells : {A : Type 0} → (A → Row) → List ℕ → (A → A → Bool) → Type 0
Tells {A} put key same = (v w : Value) (a b : A) → agree (record { digits = 0 }) key (v ∷ put a) key (w ∷ put b) ≡ same a b

pub desk_told : Tells put_desk (1 ∷ []) same_desk
unfolding first_key
desk_told v w a b = ap (λ x. x && true) (number_test a.id b.id) ∙ and_true (a.id == b.id)

pub game_told : Tells put_game (1 ∷ []) same_name
unfolding first_key
game_told v w a b = ap (λ x. x && true) (text_test a.name b.name) ∙ and_true (bytes_eq a.name b.name)

pub seat_told : Tells put_seat (1 ∷ 2 ∷ []) same_seat
unfolding first_key
seat_told v w a b = ap₂ (λ x y. x && (y && true)) (text_test a.game b.game) (text_test a.power b.power) ∙ and_both (bytes_eq a.game b.game) (bytes_eq a.power b.power)

pub unit_told : Tells put_unit (1 ∷ 2 ∷ 3 ∷ []) same_unit
unfolding first_key
unit_told v w a b = ap₂ (λ x r. x && r) (text_test a.game b.game) (ap₂ (λ y z. y && (z && true)) (text_test a.province b.province) (number_test a.dislodged b.dislodged)) ∙ and_all (bytes_eq a.game b.game) (bytes_eq a.province b.province) (a.dislodged == b.dislodged)

pub centre_told : Tells put_centre (1 ∷ 2 ∷ []) same_centre
unfolding first_key
centre_told v w a b = ap₂ (λ x y. x && (y && true)) (text_test a.game b.game) (text_test a.province b.province) ∙ and_both (bytes_eq a.game b.game) (bytes_eq a.province b.province)

pub pending_told : Tells put_pending (1 ∷ 2 ∷ 3 ∷ []) same_order
unfolding first_key
pending_told v w a b = ap₂ (λ x r. x && r) (text_test a.game b.game) (ap₂ (λ y z. y && (z && true)) (text_test a.power b.power) (text_test a.province b.province)) ∙ and_all (bytes_eq a.game b.game) (bytes_eq a.power b.power) (bytes_eq a.province b.province)

pub box_told : Tells put_box (1 ∷ 2 ∷ 3 ∷ []) same_item
unfolding first_key
box_told v w a b = ap₂ (λ x r. x && r) (text_test a.game b.game) (ap₂ (λ y z. y && (z && true)) (text_test a.power b.power) (number_test a.number b.number)) ∙ and_all (bytes_eq a.game b.game) (bytes_eq a.power b.power) (a.number == b.number)

pub paper_told : Tells put_paper (1 ∷ 2 ∷ []) same_paper
unfolding first_key
paper_told v w a b = ap₂ (λ x y. x && (y && true)) (text_test a.game b.game) (number_test a.number b.number) ∙ and_both (bytes_eq a.game b.game) (a.number == b.number)

pub ballot_told : Tells put_ballot (1 ∷ 2 ∷ []) same_ballot
unfolding first_key
ballot_told v w a b = ap₂ (λ x y. x && (y && true)) (text_test a.game b.game) (text_test a.power b.power) ∙ and_both (bytes_eq a.game b.game) (bytes_eq a.power b.power)

pub choice_told : Tells put_choice (1 ∷ []) same_choice
unfolding first_key
choice_told v w a b = ap (λ x. x && true) (text_test a.game b.game) ∙ and_true (bytes_eq a.game b.game)

-- a schema of which the master's table is one
module _ (schema : Schema) (listed : Has schema.tables desk_table) (db : Database) (has : db.schema ≡ schema) (sound : IsDatabase db) (it : IsRising put_desk take_desk (db.trees 0)) where
  pub desk_differ : Differ same_desk (map take_desk (db.trees 0))
  unfolding first_key
  desk_differ = apart_in put_desk take_desk (1 ∷ []) same_desk schema desk_table desk_told listed refl db.trees (subst (λ s. IsSound s db.trees) has sound) it

module _ (db : Database) (good : IsGood db) where
  pub games_differ : Differ same_name (map take_game (db.trees 2))
  unfolding first_key
  games_differ = apart_in put_game take_game (1 ∷ []) same_name our_schema game_table game_told (inr (inl refl)) refl db.trees (subst (λ s. IsSound s db.trees) good.schema good.sound) good.games

  pub seats_differ : Differ same_seat (map take_seat (db.trees 4))
  unfolding first_key
  seats_differ = apart_in put_seat take_seat (1 ∷ 2 ∷ []) same_seat our_schema seat_table seat_told (inr (inr (inl refl))) refl db.trees (subst (λ s. IsSound s db.trees) good.schema good.sound) good.seats

  units_differ : Differ same_unit (map take_unit (db.trees 6))
  unfolding first_key
  units_differ = apart_in put_unit take_unit (1 ∷ 2 ∷ 3 ∷ []) same_unit our_schema unit_table unit_told (inr (inr (inr (inl refl)))) refl db.trees (subst (λ s. IsSound s db.trees) good.schema good.sound) good.units

  centres_differ : Differ same_centre (map take_centre (db.trees 8))
  unfolding first_key
  centres_differ = apart_in put_centre take_centre (1 ∷ 2 ∷ []) same_centre our_schema centre_table centre_told (inr (inr (inr (inr (inl refl))))) refl db.trees (subst (λ s. IsSound s db.trees) good.schema good.sound) good.centres

  pending_differ : Differ same_order (map take_pending (db.trees 10))
  unfolding first_key
  pending_differ = apart_in put_pending take_pending (1 ∷ 2 ∷ 3 ∷ []) same_order our_schema pending_table pending_told (inr (inr (inr (inr (inr (inl refl)))))) refl db.trees (subst (λ s. IsSound s db.trees) good.schema good.sound) good.pending

  pub boxes_differ : Differ same_item (map take_box (db.trees 12))
  unfolding first_key
  boxes_differ = apart_in put_box take_box (1 ∷ 2 ∷ 3 ∷ []) same_item our_schema box_table box_told (inr (inr (inr (inr (inr (inr (inl refl))))))) refl db.trees (subst (λ s. IsSound s db.trees) good.schema good.sound) good.boxes

  pub papers_differ : Differ same_paper (map take_paper (db.trees 14))
  unfolding first_key
  papers_differ = apart_in put_paper take_paper (1 ∷ 2 ∷ []) same_paper our_schema paper_table paper_told (inr (inr (inr (inr (inr (inr (inr (inl refl)))))))) refl db.trees (subst (λ s. IsSound s db.trees) good.schema good.sound) good.papers

  pub ballots_differ : Differ same_ballot (map take_ballot (db.trees 16))
  unfolding first_key
  ballots_differ = apart_in put_ballot take_ballot (1 ∷ 2 ∷ []) same_ballot our_schema ballot_table ballot_told (inr (inr (inr (inr (inr (inr (inr (inr (inl refl))))))))) refl db.trees (subst (λ s. IsSound s db.trees) good.schema good.sound) good.ballots

  pub choices_differ : Differ same_choice (map take_choice (db.trees 18))
  unfolding first_key
  choices_differ = apart_in put_choice take_choice (1 ∷ []) same_choice our_schema choice_table choice_told (inr (inr (inr (inr (inr (inr (inr (inr (inr (inl refl)))))))))) refl db.trees (subst (λ s. IsSound s db.trees) good.schema good.sound) good.choices

  pub are_keyed : AreKeyed (tables_of db.trees)
  are_keyed = record {
    desk = desk_differ our_schema (inl refl) db good.schema good.sound good.desk;
    games = games_differ;
    seats = seats_differ;
    units = units_differ;
    centres = centres_differ;
    pending = pending_differ;
    boxes = boxes_differ;
    papers = papers_differ;
    ballots = ballots_differ;
    choices = choices_differ;
  }

  -- no two games have one name, and no two seats of a game one power
  pub are_apart : AreApart (tables_of db.trees)
  are_apart = record { games = games_differ; seats = seats_differ }

-- nor does one among the first of more records
module _ {A : Type 0} (same : A → A → Bool) where
  all_front : (P : A → Type 0) (xs ys : List A) → AllByRecursion P (xs ++ ys) → AllByRecursion P xs
  all_front P [] ys all = tt
  all_front P (x ∷ xs) ys all = (all.0, all_front P xs ys all.1)

  pub front_apart : (xs ys : List A) → Differ same (xs ++ ys) → Differ same xs
  front_apart [] ys apart = tt
  front_apart (x ∷ xs) ys apart = (all_front (λ y. same x y ≡ false) xs ys apart.0, front_apart xs ys apart.1)
