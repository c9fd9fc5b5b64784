-- What is published of a movement: the last clause of the headline.
use Rattle.std.specs.Prelude.{◌≡◌, ◌++◌, ℕ, true, List, Some, codes, flat_map}
use Rattle.std.specs.List.{AllByRecursion}
use Rattle.dip_map.specs.declared.boards.Phase.{Phase}
use Rattle.dip_map.specs.Boards.{Position}
use Rattle.dip_map.specs.Charts.{Chart}
use Rattle.dip_decide.specs.Decision.{Decision}
use Rattle.dip_decide.specs.Deciding.{Assignment, Step, is_broken}
use Rattle.dip_decide.specs.Meaning.{meant_on, situation_on}
use Rattle.dip_decide.specs.Movement.{Satisfies}
use Rattle.dip_decide.specs.Results.{AreExplained}
use Rattle.dip_orders_placed.specs.Standing.{standing_orders}
use Rattle.dip_orders_placed.specs.declared.placed.PlacedOrder.{PlacedOrder}
use Rattle.dip_turn.specs.Moving.{after_moves}
use Rattle.dip_turn.specs.Outcomes.{movement_lines}
use Rattle.dip_turn.specs.MovementLine.{MovementLine}
use Rattle.dip_turn_papers.specs.Papers.{centre_line, lines_by_power, moved_lines, title}
use Rattle.dip_desk_state.specs.Records.{Public, Whole}
use Rattle.dip_reports.specs.Texts.{board_lines, game_line}
use Rattle.dip_turn.specs.Centres.{centre_lines}
use Rattle.dip_turn.specs.Phases.{follow}
use Rattle.dip_turn.specs.CentreLine.{CentreLine}
use Rattle.dip_desk_machine.specs.Machine.{Taken}
use Rattle.dip_desk_state.specs.State.{Game, Publishes, State, game_at, whole_of}
use Rattle.dip_desk_games.specs.Ticking.{orders_of}
use Rattle.dip_desk_machine.specs.View.{IsRun, IsSettledByView, Turn}
use Rattle.dip_orders.specs.Conditions.{is_movement}

-- the orders that stood in a game, one for each unit on its board: its pending order, or else a hold
abbrev pub orders_stood : Chart → Whole → List PlacedOrder
orders_stood m w = standing_orders w.public.board (orders_of m w)

-- values that satisfy the decision equations for these orders as they are meant on the board, and are explained: steps lead to them, and
-- only a path that one of the steps breaks has another value than its equation's; and whatever steps explain these orders come to these
-- values, and break these paths
pub record AreDecided (m : Chart) (b : Position) (orders : List PlacedOrder) (values : Assignment) : Type 0 where
  pub steps : List Step
  pub explained : AreExplained (situation_on m b orders) steps values
  pub satisfied : Satisfies (situation_on m b orders) (is_broken steps) values
  pub only : (others : List Step) (a : Assignment) → AreExplained (situation_on m b orders) others a → (d : Decision) → (values d ≡ a d) × (is_broken steps d ≡ is_broken others d)

-- the paper of a movement: its orders with their outcomes, the centres that changed hands, and the public part after it
abbrev pub movement_paper : Chart → Phase → List MovementLine → List CentreLine → Public → List ℕ
movement_paper m phase lines centres public = title public.papers phase
    ++ lines_by_power m (moved_lines lines)
    ++ flat_map (centre_line m) centres
    ++ game_line m public ++ board_lines m public.board ++ codes "END\n"

-- a paper prints, for the orders that stood, the outcomes of values that satisfy the decision equations and are explained, of which
-- there are no others; and the board after it is the one that these values leave
pub record TellsMovement (m : Chart) (w : Whole) (public : Public) (paper : List ℕ) : Type 0 where
  pub values : Assignment
  pub decided : AreDecided m w.public.board (orders_stood m w) values
  pub text : paper ≡ movement_paper m w.public.board.phase (movement_lines m w.public.board values (orders_stood m w))
      (centre_lines m w.public.board public.board) public
  pub board : public.board ≡ (follow m w.public.board.phase.season (after_moves m w.public.board values (meant_on m w.public.board (orders_stood m w)))).board

-- each movement that a turn publishes is told so
abbrev pub TellsTruly : Chart → Turn → Type 0
TellsTruly m t = (text paper : List ℕ) (public : Public) (g : Game) → t.verdict ≡ Taken text (Publishes public paper true)
    → game_at t.letter.note.game t.before ≡ Some g → is_movement g.public.board.phase.season ≡ true
    → TellsMovement m (whole_of g) public paper

-- in each history each published movement satisfies the decision equations for the orders that stood
abbrev pub MovementsAreDecided : Chart → Type 0
MovementsAreDecided m = (old new : State) (turns : List Turn) → IsRun m old turns new → AllByRecursion (TellsTruly m) turns

-- the headline: what each seat is told is settled by its view, and each published movement satisfies the decision equations for the
-- orders that stood
pub record IsFair (m : Chart) (old : State) (turns : List Turn) (new : State) : Type 0 where
  pub settled : IsSettledByView m old turns new
  pub published : AllByRecursion (TellsTruly m) turns
