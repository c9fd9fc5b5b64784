-- A phase, adjudicated: the board after it, and its report.
use Rattle.std.specs.Prelude.{◌≡◌, ◌≤◌, ◌+◌, List, length}
use Rattle.dip_map.specs.Charts.{Chart}
use Rattle.dip_map.specs.declared.boards.Season.{Season}
use Rattle.dip_map.specs.declared.boards.Season.TheVariants.{SpringMoves, SpringRetreats, FallMoves, FallRetreats, Winter}
use Rattle.dip_map.specs.Boards.{Position}
use Rattle.dip_orders_placed.specs.Standing.{standing_orders}
use Rattle.dip_orders_placed.specs.declared.placed.PlacedOrder.{PlacedOrder}
use Rattle.dip_decide.specs.Decision.{Decision}
use Rattle.dip_decide.specs.Deciding.{is_broken}
use Rattle.dip_decide.specs.Meaning.{meant_on, situation_on}
use Rattle.dip_decide.specs.Movement.{Satisfies}
use Rattle.dip_decide.specs.Results.{AreExplained, AreInOrder, IsOnly, broken_in, decided_in, forced_in, mentions_in, values_in}
use Rattle.dip_decide.specs.Steps.{steps_of}
use Rattle.dip_turn_phases.specs.Adjusting as adjusting
use Rattle.dip_turn_phases.specs.Centres.{centre_lines}
use Rattle.dip_turn_phases.specs.Moving.{after_moves}
use Rattle.dip_turn_phases.specs.Outcomes.{movement_lines}
use Rattle.dip_turn_phases.specs.Phases.{sequel, follow}
use Rattle.dip_turn_phases.specs.Retreating.{after_retreats, retreat_lines}
use Rattle.dip_turn_phases.specs.declared.report.Account.{Account}
use Rattle.dip_turn_phases.specs.declared.report.Account.TheVariants.{Movement as OfMovement, Retreats as OfRetreats, Adjustment as OfAdjustment}
use Rattle.dip_turn_phases.specs.declared.report.Adjustment.{Adjustment}
use Rattle.dip_turn_phases.specs.declared.report.Movement.{Movement}
use Rattle.dip_turn_phases.specs.declared.report.Report.{Report}

-- a movement of the orders that stand, one for each unit, as they are meant: its values satisfy the decision equations but for the paths that are named as
-- broken, steps explain them and break these paths, and whatever steps explain the same orders come to the same; the lists are in order,
-- there are as many steps as decisions at most, and of tests at least as many as forced steps and at most as many as decisions and
-- mentions; and the values make the board and the outcomes
pub record IsMoved (m : Chart) (b : Position) (pending : List PlacedOrder) (left : Position) (t : Movement) : Type 0 where
  pub orders : t.orders ≡ standing_orders b pending
  pub equations : Satisfies (situation_on m b t.orders) (broken_in t.resolution) (values_in t.resolution)
  pub explained : AreExplained (situation_on m b t.orders) (steps_of t.resolution.steps.items) (values_in t.resolution)
  pub only : IsOnly (situation_on m b t.orders) t.resolution
  pub broken : (d : Decision) → broken_in t.resolution d ≡ is_broken (steps_of t.resolution.steps.items) d
  pub few : length t.resolution.steps.items ≤ decided_in (situation_on m b t.orders)
  pub ordered : AreInOrder t.resolution
  pub counted : forced_in (steps_of t.resolution.steps.items) ≤ t.resolution.tests
  pub tested : t.resolution.tests ≤ decided_in (situation_on m b t.orders) + mentions_in (situation_on m b t.orders)
  pub board : left ≡ after_moves m b (values_in t.resolution) (meant_on m b t.orders)
  pub lines : t.lines.items ≡ movement_lines m b (values_in t.resolution) t.orders

-- builds, removals that stand and removals in disorder, and the builds that nobody made
pub record IsAdjusted (m : Chart) (b : Position) (pending : List PlacedOrder) (left : Position) (t : Adjustment) : Type 0 where
  pub board : left ≡ adjusting.after_adjustment m b pending
  pub builds : t.builds.items ≡ adjusting.units_built pending
  pub removals : t.removals.items ≡ adjusting.units_given b pending
  pub disorder : t.disorder.items ≡ adjusting.disorder m b pending
  pub waivers : t.waivers.items ≡ adjusting.waivers m b pending

-- what a phase of movement leaves
abbrev pub LeavesMoved : Chart → Position → List PlacedOrder → Position → Account → Type 0
LeavesMoved m b pending left (OfMovement t) = IsMoved m b pending left t
LeavesMoved m b pending left (OfRetreats lines) = ⊥
LeavesMoved m b pending left (OfAdjustment t) = ⊥

-- what a phase of retreats leaves
abbrev pub LeavesRetreated : Position → List PlacedOrder → Position → Account → Type 0
LeavesRetreated b pending left (OfMovement t) = ⊥
LeavesRetreated b pending left (OfRetreats lines) = (left ≡ after_retreats b pending) × (lines.items ≡ retreat_lines b pending)
LeavesRetreated b pending left (OfAdjustment t) = ⊥

-- what a Winter leaves
abbrev pub LeavesAdjusted : Chart → Position → List PlacedOrder → Position → Account → Type 0
LeavesAdjusted m b pending left (OfMovement t) = ⊥
LeavesAdjusted m b pending left (OfRetreats lines) = ⊥
LeavesAdjusted m b pending left (OfAdjustment t) = IsAdjusted m b pending left t

-- the board that a phase of that season leaves, and what is told of it
abbrev pub Leaves : Chart → Season → Position → List PlacedOrder → Position → Account → Type 0
Leaves m SpringMoves b pending left account = LeavesMoved m b pending left account
Leaves m SpringRetreats b pending left account = LeavesRetreated b pending left account
Leaves m FallMoves b pending left account = LeavesMoved m b pending left account
Leaves m FallRetreats b pending left account = LeavesRetreated b pending left account
Leaves m Winter b pending left account = LeavesAdjusted m b pending left account

-- the board after its phase is adjudicated with the orders that stand, and the report
pub record IsPlayed (m : Chart) (b : Position) (pending : List PlacedOrder) (new : Position) (report : Report) : Type 0 where
  pub left : Position
  pub account : Leaves m b.phase.season b pending left report.account
  pub next : sequel new report.course ≡ follow m b.phase.season left
  pub phase : report.phase ≡ b.phase
  pub centres : report.centres.items ≡ centre_lines m b new
