-- What is right is adjudicated by the rules.
use Rattle.std.proofs.Common.{◌≡◌, true, ◌++◌, codes, flat_map, refl, sym, ap, subst, ◌∙◌, List}
use Rattle.std.proofs.lemmas.Bool.{false≢true}
use Rattle.dip_map.specs.Boards.{Position}
use Rattle.dip_map.specs.declared.boards.Phase.{Phase}
use Rattle.dip_map.specs.declared.boards.Season.{Season}
use Rattle.dip_map.specs.declared.boards.Season.TheVariants.{SpringMoves, SpringRetreats, FallMoves, FallRetreats, Winter}
use Rattle.dip_map.specs.Charts.{Chart}
use Rattle.dip_decide.specs.Meaning.{meant_on, situation_on}
use Rattle.dip_decide.specs.Results.{values_in}
use Rattle.dip_decide.specs.Statements.{ExplainedSatisfies}
use Rattle.dip_decide.specs.Steps.{steps_of}
use Rattle.dip_orders.specs.Conditions.{is_movement}
use Rattle.dip_orders_placed.specs.Standing.{standing_orders}
use Rattle.dip_orders_placed.specs.declared.placed.PlacedOrder.{PlacedOrder}
use Rattle.dip_turn.specs.Moving.{after_moves}
use Rattle.dip_turn.specs.Outcomes.{movement_lines}
use Rattle.dip_turn.specs.MovementLine.{MovementLine}
use Rattle.dip_turn_papers.specs.Papers.{account_text, centre_line, paper_text, title}
use Rattle.dip_desk_state.specs.Records.{Public}
use Rattle.dip_reports.specs.Texts.{board_lines, game_line}
use Rattle.dip_turn.specs.Centres.{centre_lines}
use Rattle.dip_turn.specs.Phases.{Sequel, follow}
use Rattle.dip_turn.specs.Reports.{Leaves, LeavesMoved}
use Rattle.dip_turn_phases.specs.declared.report.Account.{Account}
use Rattle.dip_turn_phases.specs.declared.report.Account.TheVariants.{Movement as OfMovement, Retreats as OfRetreats, Adjustment as OfAdjustment}
use Rattle.dip_turn.specs.CentreLine.{CentreLine}
use Rattle.dip_turn_phases.specs.declared.report.Movement.{Movement}
use Rattle.dip_turn_phases.specs.declared.report.Report.{Report}
use Rattle.dip_desk_machine.specs.Published.{AreDecided, movement_paper}
use Rattle.dip_check_papers.specs.Games.{IsPhaseOf}
use Rattle.dip_check_laws.specs.Published.{IsDecidedFor, MovementsAreDecided}

paper_of : (m : Chart) (r : Report) (t : Movement) (p : Public) → r.account ≡ OfMovement t → paper_text m r p ≡ movement_paper m r.phase t.lines.items r.centres.items p
unfolding paper_text
paper_of m r t p is =
    ap (λ (a : Account). title p.papers r.phase ++ account_text m a ++ flat_map (centre_line m) r.centres.items ++ game_line m p ++ board_lines m p.board ++ codes "END\n") is

moved_by : (m : Chart) (season : Season) (b : Position) (pending : List PlacedOrder) (left : Position) (account : Account) → is_movement season ≡ true
    → Leaves m season b pending left account → LeavesMoved m b pending left account
moved_by m SpringMoves b pending left account is h = h
moved_by m SpringRetreats b pending left account is h = absurd (false≢true is)
moved_by m FallMoves b pending left account is h = h
moved_by m FallRetreats b pending left account is h = absurd (false≢true is)
moved_by m Winter b pending left account is h = absurd (false≢true is)

pub movements_are_decided : (m : Chart) → ExplainedSatisfies → MovementsAreDecided m
movements_are_decided m equations q new text whole moves = by whole.report.account refl (moved_by m b.phase.season b pending p.played.left whole.report.account moves p.played.account)
  where
    p : IsPhaseOf m q text whole.report new
    p = whole.brought

    b : Position
    b = q.board

    pending : List PlacedOrder
    pending = p.orders

    board : new.board ≡ p.board
    board = ap (λ (r : Public). r.board) p.after

    by : (account : Account) → whole.report.account ≡ account → LeavesMoved m b pending p.played.left account → IsDecidedFor m q p.orders text new
    by (OfMovement t) is h =
        let decided : AreDecided m b (standing_orders b pending) (values_in t.resolution) =
        subst (λ (os : List PlacedOrder). AreDecided m b os (values_in t.resolution)) h.orders (record {
          steps = steps_of t.resolution.steps.items;
          explained = h.explained;
          satisfied = equations (situation_on m b t.orders) (steps_of t.resolution.steps.items) (values_in t.resolution) h.explained;
          only = λ others a e d. let one = h.only others a e d in (one.0, sym (h.broken d) ∙ one.1);
        }) in
        let lines : t.lines.items ≡ movement_lines m b (values_in t.resolution) (standing_orders b pending) =
        h.lines ∙ ap (λ (os : List PlacedOrder). movement_lines m b (values_in t.resolution) os) h.orders in
        let centres : whole.report.centres.items ≡ centre_lines m b new.board = p.played.centres ∙ ap (centre_lines m b) (sym board) in
        record {
          values = values_in t.resolution;
          decided = decided;
          told = p.told ∙ paper_of m whole.report t new is
              ∙ ap (λ (phase : Phase). movement_paper m phase t.lines.items whole.report.centres.items new) p.played.phase
              ∙ ap (λ (ls : List MovementLine). movement_paper m b.phase ls whole.report.centres.items new) lines
              ∙ ap (λ (cs : List CentreLine). movement_paper m b.phase (movement_lines m b (values_in t.resolution) (standing_orders b pending)) cs new) centres;
          board = board ∙ ap (λ (s : Sequel). s.board) p.played.next
              ∙ ap (λ (left : Position). (follow m b.phase.season left).board)
              (h.board ∙ ap (λ (os : List PlacedOrder). after_moves m b (values_in t.resolution) (meant_on m b os)) h.orders);
        }
    by (OfRetreats lines) is h = absurd h
    by (OfAdjustment t) is h = absurd h
