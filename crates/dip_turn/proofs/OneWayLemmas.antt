-- A phase comes to one result.
use Rattle.std.proofs.Common.{◌≡◌, List, sym, ap, ◌∙◌, subst}
use Rattle.dip_map.specs.Charts.{Chart}
use Rattle.dip_map.specs.declared.boards.Season.{Season}
use Rattle.dip_map.specs.declared.boards.Season.TheVariants.{SpringMoves, SpringRetreats, FallMoves, FallRetreats, Winter}
use Rattle.dip_map.specs.Boards.{Position}
use Rattle.dip_orders_placed.specs.declared.placed.PlacedOrder.{PlacedOrder}
use Rattle.dip_decide.specs.Decision.{Decision}
use Rattle.dip_decide.specs.Decision.TheVariants.{Move, Path, Support}
use Rattle.dip_decide.specs.Deciding.{Assignment}
use Rattle.dip_decide.specs.Meaning.{meant_on, situation_on}
use Rattle.dip_decide.specs.Results.{AreExplained, broken_in, values_in}
use Rattle.dip_decide.specs.Steps.{steps_of}
use Rattle.dip_turn_phases.specs.Centres.{centre_lines}
use Rattle.dip_turn.specs.Laws.{AreAlike, DecideAlike, IsSame}
use Rattle.dip_turn_phases.specs.Moving.{after_moves}
use Rattle.dip_turn_phases.specs.Outcomes.{movement_lines}
use Rattle.dip_turn_phases.specs.Phases.{Sequel, follow, sequel}
use Rattle.dip_turn.specs.Reports.{IsMoved, IsPlayed, Leaves, LeavesAdjusted, LeavesMoved, LeavesRetreated}
use Rattle.dip_turn_phases.specs.declared.report.Account.{Account}
use Rattle.dip_turn_phases.specs.declared.report.Account.TheVariants.{Movement as OfMovement, Retreats as OfRetreats, Adjustment as OfAdjustment}
use Rattle.dip_turn_phases.specs.declared.report.Movement.{Movement}
use Rattle.dip_turn_phases.specs.declared.report.Report.{Report}
use Rattle.dip_turn.proofs.AscendingLemmas.{listed_alike}

-- two assignments with the same values are one
same_values : (f g : Assignment) → ((d : Decision) → f d ≡ g d) → f ≡ g
same_values f g same = λ i. λ d. same d i

-- two boards left and two accounts are the same
record AreSame (left other : Position) (t u : Account) : Type 0 where
  board : left ≡ other
  account : AreAlike t u

module _ (m : Chart) (b : Position) (pending : List PlacedOrder) (left other : Position) (t u : Movement) (x : IsMoved m b pending left t) (y : IsMoved m b pending other u) where
  orders_one : t.orders ≡ u.orders
  orders_one = x.orders ∙ sym y.orders

  -- what explains the one explains the other, and so has its values and breaks its paths
  answer_one : (d : Decision) → (values_in t.resolution d ≡ values_in u.resolution d) × (broken_in t.resolution d ≡ broken_in u.resolution d)
  answer_one d =
      let explained : AreExplained (situation_on m b t.orders) (steps_of u.resolution.steps.items) (values_in u.resolution) =
      subst (λ (os : List PlacedOrder). AreExplained (situation_on m b os) (steps_of u.resolution.steps.items) (values_in u.resolution)) (sym orders_one) y.explained in
      let only = x.only (steps_of u.resolution.steps.items) (values_in u.resolution) explained d in
      (only.0, only.1 ∙ sym (y.broken d))

  values_one : values_in t.resolution ≡ values_in u.resolution
  values_one = same_values (values_in t.resolution) (values_in u.resolution) (λ d. (answer_one d).0)

  lists_one : DecideAlike t.resolution u.resolution
  lists_one = record {
    moves = listed_alike t.resolution.moves.items u.resolution.moves.items x.ordered.0 y.ordered.0 (λ p. (answer_one (Move p)).0);
    paths = listed_alike t.resolution.paths.items u.resolution.paths.items x.ordered.1 y.ordered.1 (λ p. (answer_one (Path p)).0);
    supports = listed_alike t.resolution.supports.items u.resolution.supports.items x.ordered.2 y.ordered.2 (λ p. (answer_one (Support p)).0);
    broken = listed_alike t.resolution.broken.items u.resolution.broken.items x.ordered.3 y.ordered.3 (λ p. (answer_one (Path p)).1);
  }

  moved_once : AreSame left other (OfMovement t) (OfMovement u)
  moved_once = record {
    board =
        x.board ∙ ap (λ (os : List PlacedOrder). after_moves m b (values_in t.resolution) (meant_on m b os)) orders_one
        ∙ ap (λ (a : Assignment). after_moves m b a (meant_on m b u.orders)) values_one ∙ sym y.board;
    account = (
      orders_one,
      lists_one,
      x.lines ∙ ap (λ (os : List PlacedOrder). movement_lines m b (values_in t.resolution) os) orders_one
          ∙ ap (λ (a : Assignment). movement_lines m b a u.orders) values_one ∙ sym y.lines,
    );
  }

moves_once : (m : Chart) (b : Position) (pending : List PlacedOrder) (left other : Position) (t u : Account)
    → LeavesMoved m b pending left t → LeavesMoved m b pending other u → AreSame left other t u
moves_once m b pending left other (OfMovement t) (OfMovement u) x y = moved_once m b pending left other t u x y
moves_once m b pending left other (OfMovement t) (OfRetreats u) x y = absurd y
moves_once m b pending left other (OfMovement t) (OfAdjustment u) x y = absurd y
moves_once m b pending left other (OfRetreats t) u x y = absurd x
moves_once m b pending left other (OfAdjustment t) u x y = absurd x

retreats_once : (b : Position) (pending : List PlacedOrder) (left other : Position) (t u : Account)
    → LeavesRetreated b pending left t → LeavesRetreated b pending other u → AreSame left other t u
retreats_once b pending left other (OfRetreats t) (OfRetreats u) x y = record { board = x.0 ∙ sym y.0; account = x.1 ∙ sym y.1 }
retreats_once b pending left other (OfRetreats t) (OfMovement u) x y = absurd y
retreats_once b pending left other (OfRetreats t) (OfAdjustment u) x y = absurd y
retreats_once b pending left other (OfMovement t) u x y = absurd x
retreats_once b pending left other (OfAdjustment t) u x y = absurd x

adjusts_once : (m : Chart) (b : Position) (pending : List PlacedOrder) (left other : Position) (t u : Account)
    → LeavesAdjusted m b pending left t → LeavesAdjusted m b pending other u → AreSame left other t u
adjusts_once m b pending left other (OfAdjustment t) (OfAdjustment u) x y =
    record {
      board = x.board ∙ sym y.board;
      account = (x.builds ∙ sym y.builds, x.removals ∙ sym y.removals, x.disorder ∙ sym y.disorder, x.waivers ∙ sym y.waivers);
    }
adjusts_once m b pending left other (OfAdjustment t) (OfMovement u) x y = absurd y
adjusts_once m b pending left other (OfAdjustment t) (OfRetreats u) x y = absurd y
adjusts_once m b pending left other (OfMovement t) u x y = absurd x
adjusts_once m b pending left other (OfRetreats t) u x y = absurd x

leaves_once : (m : Chart) (season : Season) (b : Position) (pending : List PlacedOrder) (left other : Position) (t u : Account)
    → Leaves m season b pending left t → Leaves m season b pending other u → AreSame left other t u
leaves_once m SpringMoves b pending left other t u x y = moves_once m b pending left other t u x y
leaves_once m SpringRetreats b pending left other t u x y = retreats_once b pending left other t u x y
leaves_once m FallMoves b pending left other t u x y = moves_once m b pending left other t u x y
leaves_once m FallRetreats b pending left other t u x y = retreats_once b pending left other t u x y
leaves_once m Winter b pending left other t u x y = adjusts_once m b pending left other t u x y

pub plays_once : (m : Chart) (b : Position) (pending : List PlacedOrder) (new other : Position) (one two : Report)
    → IsPlayed m b pending new one → IsPlayed m b pending other two → IsSame new other one two
plays_once m b pending new other one two x y =
    let left = leaves_once m b.phase.season b pending x.left y.left one.account two.account x.account y.account in
    let next : sequel new one.course ≡ sequel other two.course = x.next ∙ ap (follow m b.phase.season) left.board ∙ sym y.next in
    let board : new ≡ other = ap (λ (s : Sequel). s.board) next in
    record {
      board = board;
      account = left.account;
      phase = x.phase ∙ sym y.phase;
      centres = x.centres ∙ ap (centre_lines m b) board ∙ sym y.centres;
      course = ap (λ (s : Sequel). s.course) next;
    }
