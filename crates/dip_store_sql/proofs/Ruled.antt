-- The rules of the ten tables hold of rows that are records, where the keys of these differ.
use Rattle.std.proofs.Common.{◌≡◌, ℕ, List, [], ◌∷◌, map, Bool, true, false, ◌&&◌, ◌==◌, bytes_eq, refl, sym, ap₂, arith}
use Rattle.std.proofs.lemmas.Bool.Decides.{nat_tests}
use Rattle.std.proofs.lemmas.Slice.Eq.{bytes_eq-Decides}
use Rattle.sqlite.specs.Order.{Row}
use Rattle.sqlite.specs.Tree.{Trees, with_tree}
use Rattle.sqlite_value.specs.Keys.{first_key}
use Rattle.dip_store_rows.proofs.ListLemmas.{all_weaker}
use Rattle.sqlite_schema.specs.declared.schema.Constraint.TheVariants.{Unique}
use Rattle.sqlite_schema.specs.Rules.{Keeps, passes, references_fit}
use Rattle.dip_store_sql.specs.Recorded.{IsRising}
use Rattle.dip_store_sql.specs.Schema.{our_schema, desk_table, game_table, seat_table, unit_table, centre_table, pending_table, box_table, paper_table, ballot_table, choice_table}
use Rattle.dip_store_rows.specs.Tables.{UnitRow, CentreRow}
use Rattle.dip_store_rows.specs.Apart.{same_name, same_seat}
use Rattle.dip_store_rows.specs.Tables.{DeskRow, GameRow, SeatRow, PendingRow, BoxRow, PaperRow, BallotRow, ChoiceRow}
use Rattle.dip_store_sql.specs.Rows.{put_desk, take_desk, put_game, take_game, put_seat, take_seat, put_unit, take_unit, put_centre, take_centre, put_pending, take_pending, put_box, take_box, put_paper, take_paper, put_ballot, take_ballot, put_choice, take_choice}
use Rattle.dip_store_sql.specs.Keys.{Differ, same_ballot, same_centre, same_choice, same_desk, same_item, same_order, same_paper, same_unit}
use Rattle.dip_store_sql.proofs.Keyed.{ballot_told, box_told, centre_told, choice_told, desk_told, game_told, paper_told, pending_told, seat_told, unit_told}
use Rattle.dip_store_sql.proofs.Passing.{AreKept}
use Rattle.dip_store_sql.proofs.Unique.{no_clashes}

-- tests that may be turned round
pub text_turned : (a b : List ℕ) → bytes_eq a b ≡ bytes_eq b a
text_turned a b = same (bytes_eq a b) (bytes_eq b a) (λ e. (bytes_eq-Decides b a).1 (sym ((bytes_eq-Decides a b).0 e))) (λ e. (bytes_eq-Decides a b).1 (sym ((bytes_eq-Decides b a).0 e)))
  where
    same : (x y : Bool) → (x ≡ true → y ≡ true) → (y ≡ true → x ≡ true) → x ≡ y
    same true y there back = sym (there refl)
    same false true there back = back refl
    same false false there back = refl

pub number_turned : (a b : ℕ) → (a == b) ≡ (b == a)
number_turned a b = grind (arith, nat_tests)

-- whatever rows are added and whatever are taken out
each_way : (fit : Bool → Bool → Bool) → fit true true ≡ true → fit true false ≡ true → fit false true ≡ true → fit false false ≡ true → (adds removes : Bool) → fit adds removes ≡ true
each_way fit both adds_alone removes_alone none true true = both
each_way fit both adds_alone removes_alone none true false = adds_alone
each_way fit both adds_alone removes_alone none false true = removes_alone
each_way fit both adds_alone removes_alone none false false = none

pub desk_rules : AreKept put_desk our_schema desk_table
desk_rules = record { typed = λ db v a. refl; present = λ db v a. refl; checked = λ db v a. refl; referred = each_way (references_fit our_schema desk_table) refl refl refl refl }

pub desk_keyed : (db : Trees) → Keeps Unique our_schema db → (rows : List Row) → IsRising put_desk take_desk rows → Differ same_desk (map take_desk rows) → Keeps Unique our_schema (with_tree db 0 rows)
unfolding first_key
desk_keyed db h rows it apart =
    let turned = λ (a b : DeskRow). number_turned a.id b.id in
    let clear = no_clashes put_desk take_desk (record { digits = 0 }) (1 ∷ []) same_desk desk_told turned rows it.typed apart in
    (all_weaker _ (λ r. passes Unique our_schema (with_tree db 0 rows) desk_table r ≡ true) (λ r e. rw e refl) rows clear, (h.1.0, (h.1.1.0, (h.1.1.1.0, (h.1.1.1.1.0, (h.1.1.1.1.1.0, (h.1.1.1.1.1.1.0, (h.1.1.1.1.1.1.1.0, (h.1.1.1.1.1.1.1.1.0, (h.1.1.1.1.1.1.1.1.1.0, tt))))))))))

pub game_rules : AreKept put_game our_schema game_table
game_rules = record { typed = λ db v a. refl; present = λ db v a. refl; checked = λ db v a. refl; referred = each_way (references_fit our_schema game_table) refl refl refl refl }

pub games_keyed : (db : Trees) → Keeps Unique our_schema db → (rows : List Row) → IsRising put_game take_game rows → Differ same_name (map take_game rows) → Keeps Unique our_schema (with_tree db 2 rows)
unfolding first_key
games_keyed db h rows it apart =
    let turned = λ (a b : GameRow). text_turned a.name b.name in
    let clear = no_clashes put_game take_game (record { digits = 0 }) (1 ∷ []) same_name game_told turned rows it.typed apart in
    (h.0, (all_weaker _ (λ r. passes Unique our_schema (with_tree db 2 rows) game_table r ≡ true) (λ r e. rw e refl) rows clear, (h.1.1.0, (h.1.1.1.0, (h.1.1.1.1.0, (h.1.1.1.1.1.0, (h.1.1.1.1.1.1.0, (h.1.1.1.1.1.1.1.0, (h.1.1.1.1.1.1.1.1.0, (h.1.1.1.1.1.1.1.1.1.0, tt))))))))))

pub seat_rules : AreKept put_seat our_schema seat_table
seat_rules = record { typed = λ db v a. refl; present = λ db v a. refl; checked = λ db v a. refl; referred = each_way (references_fit our_schema seat_table) refl refl refl refl }

pub seats_keyed : (db : Trees) → Keeps Unique our_schema db → (rows : List Row) → IsRising put_seat take_seat rows → Differ same_seat (map take_seat rows) → Keeps Unique our_schema (with_tree db 4 rows)
unfolding first_key
seats_keyed db h rows it apart =
    let turned = λ (a b : SeatRow). ap₂ (λ x y. x && y) (text_turned a.game b.game) (text_turned a.power b.power) in
    let clear = no_clashes put_seat take_seat (record { digits = 0 }) (1 ∷ 2 ∷ []) same_seat seat_told turned rows it.typed apart in
    (h.0, (h.1.0, (all_weaker _ (λ r. passes Unique our_schema (with_tree db 4 rows) seat_table r ≡ true) (λ r e. rw e refl) rows clear, (h.1.1.1.0, (h.1.1.1.1.0, (h.1.1.1.1.1.0, (h.1.1.1.1.1.1.0, (h.1.1.1.1.1.1.1.0, (h.1.1.1.1.1.1.1.1.0, (h.1.1.1.1.1.1.1.1.1.0, tt))))))))))

pub unit_rules : AreKept put_unit our_schema unit_table
unit_rules = record { typed = λ db v a. refl; present = λ db v a. refl; checked = λ db v a. refl; referred = each_way (references_fit our_schema unit_table) refl refl refl refl }

pub units_keyed : (db : Trees) → Keeps Unique our_schema db → (rows : List Row) → IsRising put_unit take_unit rows → Differ same_unit (map take_unit rows) → Keeps Unique our_schema (with_tree db 6 rows)
unfolding first_key
units_keyed db h rows it apart =
    let turned = λ (a b : UnitRow). ap₂ (λ x r. x && r) (text_turned a.game b.game) (ap₂ (λ y z. y && z) (text_turned a.province b.province) (number_turned a.dislodged b.dislodged)) in
    let clear = no_clashes put_unit take_unit (record { digits = 0 }) (1 ∷ 2 ∷ 3 ∷ []) same_unit unit_told turned rows it.typed apart in
    (h.0, (h.1.0, (h.1.1.0, (all_weaker _ (λ r. passes Unique our_schema (with_tree db 6 rows) unit_table r ≡ true) (λ r e. rw e refl) rows clear, (h.1.1.1.1.0, (h.1.1.1.1.1.0, (h.1.1.1.1.1.1.0, (h.1.1.1.1.1.1.1.0, (h.1.1.1.1.1.1.1.1.0, (h.1.1.1.1.1.1.1.1.1.0, tt))))))))))

pub centre_rules : AreKept put_centre our_schema centre_table
centre_rules = record { typed = λ db v a. refl; present = λ db v a. refl; checked = λ db v a. refl; referred = each_way (references_fit our_schema centre_table) refl refl refl refl }

pub centres_keyed : (db : Trees) → Keeps Unique our_schema db → (rows : List Row) → IsRising put_centre take_centre rows → Differ same_centre (map take_centre rows) → Keeps Unique our_schema (with_tree db 8 rows)
unfolding first_key
centres_keyed db h rows it apart =
    let turned = λ (a b : CentreRow). ap₂ (λ x y. x && y) (text_turned a.game b.game) (text_turned a.province b.province) in
    let clear = no_clashes put_centre take_centre (record { digits = 0 }) (1 ∷ 2 ∷ []) same_centre centre_told turned rows it.typed apart in
    (h.0, (h.1.0, (h.1.1.0, (h.1.1.1.0, (all_weaker _ (λ r. passes Unique our_schema (with_tree db 8 rows) centre_table r ≡ true) (λ r e. rw e refl) rows clear, (h.1.1.1.1.1.0, (h.1.1.1.1.1.1.0, (h.1.1.1.1.1.1.1.0, (h.1.1.1.1.1.1.1.1.0, (h.1.1.1.1.1.1.1.1.1.0, tt))))))))))

pub pending_rules : AreKept put_pending our_schema pending_table
pending_rules = record { typed = λ db v a. refl; present = λ db v a. refl; checked = λ db v a. refl; referred = each_way (references_fit our_schema pending_table) refl refl refl refl }

pub pending_keyed : (db : Trees) → Keeps Unique our_schema db → (rows : List Row) → IsRising put_pending take_pending rows → Differ same_order (map take_pending rows) → Keeps Unique our_schema (with_tree db 10 rows)
unfolding first_key
pending_keyed db h rows it apart =
    let turned = λ (a b : PendingRow). ap₂ (λ x r. x && r) (text_turned a.game b.game) (ap₂ (λ y z. y && z) (text_turned a.power b.power) (text_turned a.province b.province)) in
    let clear = no_clashes put_pending take_pending (record { digits = 0 }) (1 ∷ 2 ∷ 3 ∷ []) same_order pending_told turned rows it.typed apart in
    (h.0, (h.1.0, (h.1.1.0, (h.1.1.1.0, (h.1.1.1.1.0, (all_weaker _ (λ r. passes Unique our_schema (with_tree db 10 rows) pending_table r ≡ true) (λ r e. rw e refl) rows clear, (h.1.1.1.1.1.1.0, (h.1.1.1.1.1.1.1.0, (h.1.1.1.1.1.1.1.1.0, (h.1.1.1.1.1.1.1.1.1.0, tt))))))))))

pub box_rules : AreKept put_box our_schema box_table
box_rules = record { typed = λ db v a. refl; present = λ db v a. refl; checked = λ db v a. refl; referred = each_way (references_fit our_schema box_table) refl refl refl refl }

pub boxes_keyed : (db : Trees) → Keeps Unique our_schema db → (rows : List Row) → IsRising put_box take_box rows → Differ same_item (map take_box rows) → Keeps Unique our_schema (with_tree db 12 rows)
unfolding first_key
boxes_keyed db h rows it apart =
    let turned = λ (a b : BoxRow). ap₂ (λ x r. x && r) (text_turned a.game b.game) (ap₂ (λ y z. y && z) (text_turned a.power b.power) (number_turned a.number b.number)) in
    let clear = no_clashes put_box take_box (record { digits = 0 }) (1 ∷ 2 ∷ 3 ∷ []) same_item box_told turned rows it.typed apart in
    (h.0, (h.1.0, (h.1.1.0, (h.1.1.1.0, (h.1.1.1.1.0, (h.1.1.1.1.1.0, (all_weaker _ (λ r. passes Unique our_schema (with_tree db 12 rows) box_table r ≡ true) (λ r e. rw e refl) rows clear, (h.1.1.1.1.1.1.1.0, (h.1.1.1.1.1.1.1.1.0, (h.1.1.1.1.1.1.1.1.1.0, tt))))))))))

pub paper_rules : AreKept put_paper our_schema paper_table
paper_rules = record { typed = λ db v a. refl; present = λ db v a. refl; checked = λ db v a. refl; referred = each_way (references_fit our_schema paper_table) refl refl refl refl }

pub papers_keyed : (db : Trees) → Keeps Unique our_schema db → (rows : List Row) → IsRising put_paper take_paper rows → Differ same_paper (map take_paper rows) → Keeps Unique our_schema (with_tree db 14 rows)
unfolding first_key
papers_keyed db h rows it apart =
    let turned = λ (a b : PaperRow). ap₂ (λ x y. x && y) (text_turned a.game b.game) (number_turned a.number b.number) in
    let clear = no_clashes put_paper take_paper (record { digits = 0 }) (1 ∷ 2 ∷ []) same_paper paper_told turned rows it.typed apart in
    (h.0, (h.1.0, (h.1.1.0, (h.1.1.1.0, (h.1.1.1.1.0, (h.1.1.1.1.1.0, (h.1.1.1.1.1.1.0, (all_weaker _ (λ r. passes Unique our_schema (with_tree db 14 rows) paper_table r ≡ true) (λ r e. rw e refl) rows clear, (h.1.1.1.1.1.1.1.1.0, (h.1.1.1.1.1.1.1.1.1.0, tt))))))))))

pub ballot_rules : AreKept put_ballot our_schema ballot_table
ballot_rules = record { typed = λ db v a. refl; present = λ db v a. refl; checked = λ db v a. refl; referred = each_way (references_fit our_schema ballot_table) refl refl refl refl }

pub ballots_keyed : (db : Trees) → Keeps Unique our_schema db → (rows : List Row) → IsRising put_ballot take_ballot rows → Differ same_ballot (map take_ballot rows) → Keeps Unique our_schema (with_tree db 16 rows)
unfolding first_key
ballots_keyed db h rows it apart =
    let turned = λ (a b : BallotRow). ap₂ (λ x y. x && y) (text_turned a.game b.game) (text_turned a.power b.power) in
    let clear = no_clashes put_ballot take_ballot (record { digits = 0 }) (1 ∷ 2 ∷ []) same_ballot ballot_told turned rows it.typed apart in
    (h.0, (h.1.0, (h.1.1.0, (h.1.1.1.0, (h.1.1.1.1.0, (h.1.1.1.1.1.0, (h.1.1.1.1.1.1.0, (h.1.1.1.1.1.1.1.0, (all_weaker _ (λ r. passes Unique our_schema (with_tree db 16 rows) ballot_table r ≡ true) (λ r e. rw e refl) rows clear, (h.1.1.1.1.1.1.1.1.1.0, tt))))))))))

pub choice_rules : AreKept put_choice our_schema choice_table
choice_rules = record { typed = λ db v a. refl; present = λ db v a. refl; checked = λ db v a. refl; referred = each_way (references_fit our_schema choice_table) refl refl refl refl }

pub choices_keyed : (db : Trees) → Keeps Unique our_schema db → (rows : List Row) → IsRising put_choice take_choice rows → Differ same_choice (map take_choice rows) → Keeps Unique our_schema (with_tree db 18 rows)
unfolding first_key
choices_keyed db h rows it apart =
    let turned = λ (a b : ChoiceRow). text_turned a.game b.game in
    let clear = no_clashes put_choice take_choice (record { digits = 0 }) (1 ∷ []) same_choice choice_told turned rows it.typed apart in
    (h.0, (h.1.0, (h.1.1.0, (h.1.1.1.0, (h.1.1.1.1.0, (h.1.1.1.1.1.0, (h.1.1.1.1.1.1.0, (h.1.1.1.1.1.1.1.0, (h.1.1.1.1.1.1.1.1.0, (all_weaker _ (λ r. passes Unique our_schema (with_tree db 18 rows) choice_table r ≡ true) (λ r e. rw e refl) rows clear, tt))))))))))
