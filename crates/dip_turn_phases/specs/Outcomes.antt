-- What became of each order of a movement, and of its unit.
use Rattle.std.specs.Prelude.{ℕ, Bool, List, map, not, if◌then◌else◌}
use Rattle.std.specs.List.{list_any}
use Rattle.dip_map.specs.Charts.{Chart}
use Rattle.dip_map.specs.Boards.{Position}
use Rattle.dip_orders_placed.specs.declared.placed.Order.{Order}
use Rattle.dip_orders_placed.specs.declared.placed.Order.TheVariants.{Hold, Move, SupportHold, SupportMove, Convoy, Retreat, Disband, Build, Remove}
use Rattle.dip_orders_placed.specs.declared.placed.PlacedOrder.{PlacedOrder}
use Rattle.dip_decide_rules.specs.declared.decisions.Decision.TheVariants.{Support}
use Rattle.dip_decide_rules.specs.Deciding.{Assignment}
use Rattle.dip_decide_rules.specs.Matching.{situation}
use Rattle.dip_decide_rules.specs.Meaning.{meant_on}
use Rattle.dip_decide_rules.specs.Movement.{Situation, has_path, is_support}
use Rattle.dip_turn_phases.specs.Moving.{prov, has_moved, is_driven_out, dislodged_unit, moved_board, may_go}
use Rattle.dip_turn_phases.specs.declared.lines.Fate.{Fate}
use Rattle.dip_turn_phases.specs.declared.lines.Fate.TheVariants.{Stands, Dislodged, Destroyed}
use Rattle.dip_turn_phases.specs.declared.lines.MovementLine.{MovementLine}
use Rattle.dip_turn_phases.specs.declared.lines.Outcome.{Outcome}
use Rattle.dip_turn_phases.specs.declared.lines.Outcome.TheVariants.{Holds, Moves, Bounced, NoRoute, Given, Cut, Void, Convoys}

-- a move: it succeeds, or has a path and fails, or has none
abbrev pub move_outcome : Situation → Assignment → PlacedOrder → Outcome
move_outcome s a o = if has_moved a o then Moves else if has_path s a (prov o) then Bounced else NoRoute

-- a support: it doesn't match, or is given, or cut
abbrev pub support_outcome : Situation → Assignment → PlacedOrder → Outcome
support_outcome s a o = if not (is_support s (prov o)) then Void else if a (Support (prov o)) then Given else Cut

-- the fleet in x convoys somebody's move
abbrev pub is_convoy : Situation → ℕ → Bool
is_convoy s x = list_any (λ p. s.convoys x p) s.places

-- a convoy: it matches, or doesn't
abbrev pub convoy_outcome : Situation → PlacedOrder → Outcome
convoy_outcome s o = if is_convoy s (prov o) then Convoys else Void

-- what became of an order
abbrev pub outcome_by : Situation → Assignment → PlacedOrder → Order → Outcome
outcome_by s a o Hold = Holds
outcome_by s a o (Move to via) = move_outcome s a o
outcome_by s a o (SupportHold at) = support_outcome s a o
outcome_by s a o (SupportMove at to) = support_outcome s a o
outcome_by s a o (Convoy at to) = convoy_outcome s o
outcome_by s a o (Retreat to) = Holds
outcome_by s a o Disband = Holds
outcome_by s a o Build = Holds
outcome_by s a o Remove = Holds

abbrev pub outcome : Chart → Assignment → List PlacedOrder → PlacedOrder → Outcome
outcome m a orders o = outcome_by (situation m orders) a o o.order

-- what became of a unit, on the board with all dislodged units: destroyed where it is dislodged and has no place to retreat to
abbrev pub fate_on : Chart → Position → Assignment → List PlacedOrder → PlacedOrder → Fate
fate_on m moved a orders o =
    if not (is_driven_out a orders o) then Stands
    else if may_go m moved (dislodged_unit m a orders o) then Dislodged
    else Destroyed

abbrev pub line_on : Chart → Position → Assignment → List PlacedOrder → PlacedOrder → MovementLine
line_on m moved a orders o = record { placed = o; outcome = outcome m a orders o; fate = fate_on m moved a orders o }

-- a line for each order as it was given, by what the orders mean
abbrev pub lines_on : Chart → Position → Assignment → List PlacedOrder → List PlacedOrder → List MovementLine
lines_on m moved a orders given = map (line_on m moved a orders) given

-- what the paper of a movement tells of each unit: its order as it was given, and what became of it as it was meant
abbrev pub movement_lines : Chart → Position → Assignment → List PlacedOrder → List MovementLine
movement_lines m b a given = lines_on m (moved_board m b a (meant_on m b given)) a (meant_on m b given) given
