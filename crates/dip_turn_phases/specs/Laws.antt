-- Laws of what a movement makes of a board.
use Rattle.std.specs.Prelude.{◌≡◌, ℕ, ◌<◌, ◌+◌, Bool, true, false, not, ◌&&◌, All, Contains, List, length, None, Some}
use Rattle.std.specs.List.{list_any}
use Rattle.dip_map.specs.Charts.{Chart}
use Rattle.dip_map.specs.Boards.{Position, are_ascending, is_held}
use Rattle.dip_orders_placed.specs.declared.placed.PlacedOrder.{PlacedOrder}
use Rattle.dip_decide_rules.specs.Deciding.{Assignment}
use Rattle.dip_decide_rules.specs.declared.decisions.Decision.TheVariants.{Move as Moves}
use Rattle.dip_decide_rules.specs.Matching.{is_convoyed, situation}
use Rattle.dip_decide_rules.specs.Movement.{head_to_head}
use Rattle.dip_turn_phases.specs.Moving.{after_moves, contends, dislodged_after, dislodged_unit, entrant, enters, has_moved, is_driven_out, prov, standing_after, unit_after}

-- a movement loses and doubles nobody: each unit stands after it, in its province or at its destination, or is dislodged
pub record MovementKeepsUnits (m : Chart) (a : Assignment) (orders : List PlacedOrder) : Type 0 where
  pub count : length (standing_after a orders) + length (dislodged_after m a orders) ≡ length orders
  pub standing : All (λ u. (o : PlacedOrder) × Contains orders o × (is_driven_out a orders o ≡ false) × (u ≡ unit_after a o)) (standing_after a orders)
  pub dislodged : All (λ d. (o : PlacedOrder) × Contains orders o × (is_driven_out a orders o ≡ true) × (d ≡ dislodged_unit m a orders o)) (dislodged_after m a orders)

abbrev pub MovementsKeepUnits : Type 0
MovementsKeepUnits = (m : Chart) (a : Assignment) (orders : List PlacedOrder) → MovementKeepsUnits m a orders

-- a unit is dislodged exactly where it stays and a successful move leads into its province
abbrev pub DislodgedWhereEntered : Type 0
DislodgedWhereEntered =
    (a : Assignment) (orders : List PlacedOrder) (o : PlacedOrder)
    → is_driven_out a orders o ≡ (not (has_moved a o) && list_any (enters a (prov o)) orders)

-- standoffs after a movement are provinces of the map, once each in their order, and nobody stands there
pub record AreLawfulStandoffs (m : Chart) (new : Position) : Type 0 where
  pub within : All (λ p. p < length m.provinces) new.standoff
  pub once : are_ascending new.standoff ≡ true
  pub empty : All (λ p. is_held new p ≡ false) new.standoff

abbrev pub StandoffsAreLawful : Type 0
StandoffsAreLawful = (m : Chart) (b : Position) (a : Assignment) (orders : List PlacedOrder) → AreLawfulStandoffs m (after_moves m b a orders)

-- the loser of a fight head to head leaves no standoff where it was to go
abbrev pub LosersLeaveNoStandoff : Type 0
LosersLeaveNoStandoff =
    (m : Chart) (a : Assignment) (orders : List PlacedOrder) (p : ℕ) (o : PlacedOrder)
    → head_to_head (situation m orders) (prov o) p ≡ true → a (Moves p) ≡ true → contends m a orders p o ≡ false

-- an attacker by convoy closes no province to the retreat of the unit that it dislodged
abbrev pub ConvoysCloseNoOrigin : Type 0
ConvoysCloseNoOrigin =
    (m : Chart) (a : Assignment) (orders : List PlacedOrder) (o w : PlacedOrder)
    → entrant a orders (prov o) ≡ Some w → is_convoyed m (Some w) ≡ true → (dislodged_unit m a orders o).origin ≡ None
