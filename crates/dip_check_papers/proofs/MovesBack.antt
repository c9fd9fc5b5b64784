-- The orders that the paper of a movement prints stand for those that were given.
use Rattle.std.proofs.Common.{◌≡◌, true, false, List, [], ◌∷◌, ◌&&◌, map, refl, sym, ap, ◌∙◌}
use Rattle.std.specs.List.{AllByRecursion, list_all}
use Rattle.dip_names.specs.declared.names.Unit.{Unit as AUnit}
use Rattle.dip_map.specs.Boards.{IsOf, Position}
use Rattle.dip_map.specs.Charts.{Chart, IsMap, are_units_single}
use Rattle.dip_map.specs.declared.boards.Season.{Season}
use Rattle.dip_map.specs.declared.boards.Season.TheVariants.{SpringMoves, SpringRetreats, FallMoves, FallRetreats, Winter}
use Rattle.dip_decide.specs.Deciding.{Assignment}
use Rattle.dip_orders.specs.Conditions.{is_adjustment, is_movement}
use Rattle.dip_orders.specs.Given.{AreGiven}
use Rattle.dip_orders.specs.Laws.{LawfulOrdersAreRead, OrdersAreLawful, OrdersStandAlone, TextsAreReadAgain}
use Rattle.dip_orders_placed.specs.Standing.{order_among, standing_orders}
use Rattle.dip_orders.specs.Texts.{order_text}
use Rattle.dip_orders_placed.specs.declared.placed.PlacedOrder.{PlacedOrder}
use Rattle.dip_turn.specs.Outcomes.{lines_on}
use Rattle.dip_turn.specs.Reports.{IsMoved}
use Rattle.dip_turn_papers.specs.Papers.{moved_lines}
use Rattle.dip_turn_papers.specs.declared.lines.PaperLine.{PaperLine}
use Rattle.dip_turn_phases.specs.declared.report.Movement.{Movement}
use Rattle.dip_desk_games.specs.ByPlace.{are_by_place, comes_before}
use Rattle.dip_check_papers.specs.Placing.{placed_by}
use Rattle.dip_check_papers.proofs.Listed.{apart}
use Rattle.dip_check_papers.proofs.Placing.{are_sorted, each_made, of_all, placed_each, placed_sorted, single_sorted}
use Rattle.dip_check_papers.proofs.ReadAnywhere.{IsReadBack, found_again, read_anywhere}
use Rattle.dip_check_papers.proofs.Reading.{standing_is_read_back, standing_is_settled}

-- the laws of orders that reading them back stands on
pub record OrderLaws : Type 0 where
  pub again : TextsAreReadAgain
  pub alone : OrdersStandAlone
  pub lawful : OrdersAreLawful
  pub read : LawfulOrdersAreRead

sorted_is : (os : List PlacedOrder) → are_sorted (λ (o : PlacedOrder). o.unit) os ≡ are_by_place os
sorted_is [] = refl
sorted_is (o ∷ os) = ap (λ b. list_all (comes_before o) os && b) (sorted_is os)

-- orders put by power and province come by place, where no two are of one province
pub come_by_place : (m : Chart) (os : List PlacedOrder) → are_units_single (map (λ (o : PlacedOrder). o.unit) os) ≡ true → are_by_place (placed_by (λ (o : PlacedOrder). o.unit) m os) ≡ true
come_by_place m os single = sym (sorted_is (placed_by (λ (o : PlacedOrder). o.unit) m os)) ∙ placed_sorted (λ (o : PlacedOrder). o.unit) os (single_sorted (λ (o : PlacedOrder). o.unit) os single) m

-- and outside a Winter they can be given, where each is read back
pub can_be_given : OrderLaws → (m : Chart) (b : Position) (qs : List PlacedOrder) → IsMap m → IsOf m b → is_adjustment b.phase.season ≡ false
    → AllByRecursion (IsReadBack m b) qs → are_by_place qs ≡ true → AreGiven m b qs
can_be_given l m b qs laws of other back placed = record {
  each = λ o c. (order_text m o, read_anywhere l.lawful l.read m b _ o laws of other (of_all (IsReadBack m b) qs o back c));
  apart = λ power. apart power qs placed;
}

pub units_stood : (ps : List PlacedOrder) (us : List AUnit) → map (λ (o : PlacedOrder). o.unit) (map (order_among ps) us) ≡ us
units_stood ps [] = refl
units_stood ps (u ∷ us) = ap (λ (vs : List AUnit). u ∷ vs) (units_stood ps us)

pub no_winter : (s : Season) → is_movement s ≡ true → is_adjustment s ≡ false
no_winter SpringMoves h = refl
no_winter SpringRetreats h = refl
no_winter FallMoves h = refl
no_winter FallRetreats h = refl
no_winter Winter h = sym h

module _ (l : OrderLaws) (m : Chart) (b : Position) (ps : List PlacedOrder) (laws : IsMap m) (of : IsOf m b) (given : AreGiven m b ps) (moves : is_movement b.phase.season ≡ true) where
  -- what is read of a movement's paper
  abbrev pub moves_read : List PlacedOrder
  moves_read = placed_by (λ (o : PlacedOrder). o.unit) m (standing_orders b ps)

  pub stood_back : AllByRecursion (IsReadBack m b) (standing_orders b ps)
  stood_back = each_made (IsReadBack m b) (order_among ps) b.units (λ u there. standing_is_read_back l.again l.alone l.read m b ps u laws of moves given there)

  pub moves_placed : are_by_place moves_read ≡ true
  moves_placed = come_by_place m (standing_orders b ps) (ap are_units_single (units_stood ps b.units) ∙ of.apart)

  pub moves_given : AreGiven m b moves_read
  moves_given =
      can_be_given l m b moves_read laws of (no_winter b.phase.season moves)
      (placed_each (λ (o : PlacedOrder). o.unit) m (standing_orders b ps) (IsReadBack m b) stood_back) moves_placed

  pub moves_settled : standing_orders b moves_read ≡ standing_orders b ps
  moves_settled = standing_is_settled b ps moves_read (λ u there. found_again m b ps u of there)

  pub moved_alike : (left : Position) (t : Movement) → IsMoved m b ps left t → IsMoved m b moves_read left t
  moved_alike left t h = record {
    orders = h.orders ∙ sym moves_settled;
    equations = h.equations;
    explained = h.explained;
    only = h.only;
    broken = h.broken;
    few = h.few;
    ordered = h.ordered;
    counted = h.counted;
    tested = h.tested;
    board = h.board;
    lines = h.lines;
  }

pub moved_orders : (m : Chart) (moved : Position) (a : Assignment) (orders os : List PlacedOrder) → map (λ (l : PaperLine). l.placed) (moved_lines (lines_on m moved a orders os)) ≡ os
moved_orders m moved a orders [] = refl
moved_orders m moved a orders (o ∷ os) = ap (λ (t : List PlacedOrder). o ∷ t) (moved_orders m moved a orders os)
