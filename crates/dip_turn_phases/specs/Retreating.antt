-- What the retreats make of a board.
use Rattle.std.specs.Prelude.{ℕ, ◌==◌, ◌&&◌, Bool, true, false, List, [], ◌++◌, map, find, Option, None, Some, is_some, option_map, count_by, if◌then◌else◌}
use Rattle.std.specs.List.{filter_map}
use Rattle.std.specs.Option.{unwrap_or}
use Rattle.dip_names.specs.declared.names.Place.{Place}
use Rattle.dip_names.specs.declared.names.Unit.{Unit as AUnit}
use Rattle.dip_map.specs.declared.boards.Dislodged.{Dislodged}
use Rattle.dip_map.specs.Boards.{Position}
use Rattle.dip_orders_placed.specs.Standing.{is_same_unit}
use Rattle.dip_orders_placed.specs.declared.placed.Order.{Order}
use Rattle.dip_orders_placed.specs.declared.placed.Order.TheVariants.{Hold, Move, SupportHold, SupportMove, Convoy, Retreat, Disband, Build, Remove}
use Rattle.dip_orders_placed.specs.declared.placed.PlacedOrder.{PlacedOrder}
use Rattle.dip_turn_phases.specs.declared.lines.RetreatLine.{RetreatLine}

-- an order for a dislodged unit
abbrev pub is_for_dislodged : Order → Bool
is_for_dislodged (Retreat to) = true
is_for_dislodged Disband = true
is_for_dislodged Hold = false
is_for_dislodged (Move to via) = false
is_for_dislodged (SupportHold at) = false
is_for_dislodged (SupportMove at to) = false
is_for_dislodged (Convoy at to) = false
is_for_dislodged Build = false
is_for_dislodged Remove = false

-- the first order to retreat or disband that is the unit's own
abbrev pub found_retreat : List PlacedOrder → Dislodged → Option PlacedOrder
found_retreat pending d = find (λ o. is_same_unit o.unit d.unit && is_for_dislodged o.order) pending

-- the order of a dislodged unit: the first that is its own, else it disbands
abbrev pub retreat_order : List PlacedOrder → Dislodged → Order
retreat_order pending d = unwrap_or (option_map (λ o. o.order) (found_retreat pending d)) Disband

-- where an order sends a dislodged unit
abbrev pub refuge : Order → Option Place
refuge (Retreat to) = Some to
refuge Hold = None
refuge (Move to via) = None
refuge (SupportHold at) = None
refuge (SupportMove at to) = None
refuge (Convoy at to) = None
refuge Disband = None
refuge Build = None
refuge Remove = None

-- where a dislodged unit is to go
abbrev pub goal : List PlacedOrder → Dislodged → Option Place
goal pending d = refuge (retreat_order pending d)

-- the place is in that province
abbrev pub is_in : Option Place → ℕ → Bool
is_in None p = false
is_in (Some a) p = a.prov == p

-- one alone of the dislodged units goes to the province
abbrev pub is_sought_by_one : List PlacedOrder → List Dislodged → ℕ → Bool
is_sought_by_one pending ds p = count_by (λ d. is_in (goal pending d) p) ds == 1

-- a unit at the place where it goes, if no other goes to its province; else it disbands
abbrev pub at_refuge : List PlacedOrder → List Dislodged → AUnit → Option Place → Option AUnit
at_refuge pending ds u None = None
at_refuge pending ds u (Some to) =
    if is_sought_by_one pending ds to.prov then Some (record { power = u.power; kind = u.kind; place = to }) else None

-- a dislodged unit where it stands after the retreats, if it does
abbrev pub after_retreat : List PlacedOrder → List Dislodged → Dislodged → Option AUnit
after_retreat pending ds d = at_refuge pending ds d.unit (goal pending d)

-- the board after the retreats
abbrev pub after_retreats : Position → List PlacedOrder → Position
after_retreats b pending = record {
  units = b.units ++ filter_map (after_retreat pending b.dislodged) b.dislodged;
  dislodged = [];
  standoff = [];
  owners = b.owners;
  phase = b.phase;
  intent = b.intent;
}

abbrev pub retreat_line : Position → List PlacedOrder → Dislodged → RetreatLine
retreat_line b pending d = record {
  placed = record { unit = d.unit; order = retreat_order pending d };
  is_made = is_some (after_retreat pending b.dislodged d);
}

-- what the paper of the retreats tells of each dislodged unit
abbrev pub retreat_lines : Position → List PlacedOrder → List RetreatLine
retreat_lines b pending = map (retreat_line b pending) b.dislodged
