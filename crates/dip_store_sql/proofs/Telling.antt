-- Which records the tests of a statement pass.
use Rattle.std.proofs.Common.{◌≡◌, ℕ, pos, List, ◌∷◌, true, ◌&&◌, ◌==◌, bytes_eq, ap, ap₂, ◌∙◌}
use Rattle.sqlite.specs.declared.types.Value.{Value}
use Rattle.sqlite.specs.declared.types.Value.TheVariants.{Int, Text as Words}
use Rattle.sqlite.specs.Order.{Row}
use Rattle.dip_store_sql.specs.Queries.{passes}
use Rattle.dip_store_sql.proofs.Tests.{and_all, and_both, and_true, number_test, text_test}
use Rattle.dip_store_sql.specs.Asking.{by_one, by_two, by_three, by_first}
use Rattle.dip_store_rows.specs.Tables.{UnitRow, CentreRow}
use Rattle.dip_store_rows.specs.Tables.{DeskRow, GameRow, SeatRow, PendingRow, BoxRow, PaperRow, BallotRow, ChoiceRow, is_ballot_in, is_choice_in, is_ballot, is_seat_in, is_unit_in, is_centre_in, is_pending_in, is_box_in, is_paper_in, is_named, is_seat, is_pending}
use Rattle.dip_store_sql.specs.Rows.{put_desk, put_game, put_seat, put_unit, put_centre, put_pending, put_box, put_paper, put_ballot, put_choice}
use Rattle.dip_store_sql.specs.Showing.{is_item, is_numbered}
use Rattle.dip_store_sql.specs.TablesAfter.{is_first}

pub tells_desk : (params : Row) (v : Value) (d : DeskRow) → passes by_first params (v ∷ put_desk d) ≡ is_first d
tells_desk params v d = ap (λ x. x && true) (number_test d.id 1) ∙ and_true (d.id == 1)

module _ (game : List ℕ) (more : Row) where
  pub tells_game_in : (v : Value) (g : GameRow) → passes by_one (Words game ∷ more) (v ∷ put_game g) ≡ is_named game g
  tells_game_in v g = ap (λ x. x && true) (text_test g.name game) ∙ and_true (bytes_eq g.name game)

  pub tells_seat_in : (v : Value) (s : SeatRow) → passes by_one (Words game ∷ more) (v ∷ put_seat s) ≡ is_seat_in game s
  tells_seat_in v s = ap (λ x. x && true) (text_test s.game game) ∙ and_true (bytes_eq s.game game)

  pub tells_unit_in : (v : Value) (u : UnitRow) → passes by_one (Words game ∷ more) (v ∷ put_unit u) ≡ is_unit_in game u
  tells_unit_in v u = ap (λ x. x && true) (text_test u.game game) ∙ and_true (bytes_eq u.game game)

  pub tells_centre_in : (v : Value) (c : CentreRow) → passes by_one (Words game ∷ more) (v ∷ put_centre c) ≡ is_centre_in game c
  tells_centre_in v c = ap (λ x. x && true) (text_test c.game game) ∙ and_true (bytes_eq c.game game)

  pub tells_pending_in : (v : Value) (p : PendingRow) → passes by_one (Words game ∷ more) (v ∷ put_pending p) ≡ is_pending_in game p
  tells_pending_in v p = ap (λ x. x && true) (text_test p.game game) ∙ and_true (bytes_eq p.game game)

  pub tells_box_in : (v : Value) (b : BoxRow) → passes by_one (Words game ∷ more) (v ∷ put_box b) ≡ is_box_in game b
  tells_box_in v b = ap (λ x. x && true) (text_test b.game game) ∙ and_true (bytes_eq b.game game)

  pub tells_paper_in : (v : Value) (p : PaperRow) → passes by_one (Words game ∷ more) (v ∷ put_paper p) ≡ is_paper_in game p
  tells_paper_in v p = ap (λ x. x && true) (text_test p.game game) ∙ and_true (bytes_eq p.game game)

  pub tells_ballot_in : (v : Value) (b : BallotRow) → passes by_one (Words game ∷ more) (v ∷ put_ballot b) ≡ is_ballot_in game b
  tells_ballot_in v b = ap (λ x. x && true) (text_test b.game game) ∙ and_true (bytes_eq b.game game)

  pub tells_choice_in : (v : Value) (c : ChoiceRow) → passes by_one (Words game ∷ more) (v ∷ put_choice c) ≡ is_choice_in game c
  tells_choice_in v c = ap (λ x. x && true) (text_test c.game game) ∙ and_true (bytes_eq c.game game)

module _ (game power : List ℕ) (more : Row) where
  pub tells_ballot : (v : Value) (b : BallotRow) → passes by_two (Words game ∷ Words power ∷ more) (v ∷ put_ballot b) ≡ is_ballot game power b
  tells_ballot v b = ap₂ (λ x y. x && (y && true)) (text_test b.game game) (text_test b.power power) ∙ and_both (bytes_eq b.game game) (bytes_eq b.power power)

  pub tells_seat : (v : Value) (s : SeatRow) → passes by_two (Words game ∷ Words power ∷ more) (v ∷ put_seat s) ≡ is_seat game power s
  tells_seat v s = ap₂ (λ x y. x && (y && true)) (text_test s.game game) (text_test s.power power) ∙ and_both (bytes_eq s.game game) (bytes_eq s.power power)

  pub tells_pending : (v : Value) (p : PendingRow) → passes by_two (Words game ∷ Words power ∷ more) (v ∷ put_pending p) ≡ is_pending game power p
  tells_pending v p = ap₂ (λ x y. x && (y && true)) (text_test p.game game) (text_test p.power power) ∙ and_both (bytes_eq p.game game) (bytes_eq p.power power)

  pub tells_item : (number : ℕ) (v : Value) (b : BoxRow) → passes by_three (Words game ∷ Words power ∷ Int (pos number) ∷ more) (v ∷ put_box b) ≡ is_item game power number b
  tells_item number v b = ap₂ (λ x r. x && r) (text_test b.game game) (ap₂ (λ y z. y && (z && true)) (text_test b.power power) (number_test b.number number)) ∙ and_all (bytes_eq b.game game) (bytes_eq b.power power) (b.number == number)

pub tells_paper : (game : List ℕ) (number : ℕ) (more : Row) (v : Value) (p : PaperRow) → passes by_two (Words game ∷ Int (pos number) ∷ more) (v ∷ put_paper p) ≡ is_numbered game number p
tells_paper game number more v p = ap₂ (λ x y. x && (y && true)) (text_test p.game game) (number_test p.number number) ∙ and_both (bytes_eq p.game game) (p.number == number)
