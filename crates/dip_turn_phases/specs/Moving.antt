-- What a movement makes of a board. The values are those of its decisions: which moves succeed, which have a path.
use Rattle.std.specs.Prelude.{ℕ, ◌==◌, nat_lt, not, ◌&&◌, Bool, List, map, filter, find, length, Option, None, Some, is_some, if◌then◌else◌}
use Rattle.std.specs.List.{list_any}
use Rattle.dip_names.specs.declared.names.Place.{Place}
use Rattle.dip_names.specs.declared.names.Unit.{Unit as AUnit}
use Rattle.dip_map.specs.Charts.{Chart, provs}
use Rattle.dip_map.specs.declared.boards.Dislodged.{Dislodged}
use Rattle.dip_map.specs.Boards.{Position}
use Rattle.dip_orders_placed.specs.Retreats.{retreats_of}
use Rattle.dip_orders_placed.specs.declared.placed.Order.{Order}
use Rattle.dip_orders_placed.specs.declared.placed.Order.TheVariants.{Hold, Move, SupportHold, SupportMove, Convoy, Retreat, Disband, Build, Remove}
use Rattle.dip_orders_placed.specs.declared.placed.PlacedOrder.{PlacedOrder}
use Rattle.dip_decide_rules.specs.declared.decisions.Decision.TheVariants.{Move as Moves}
use Rattle.dip_decide_rules.specs.Deciding.{Assignment}
use Rattle.dip_decide_rules.specs.Matching.{destination, is_convoyed, situation}
use Rattle.dip_decide_rules.specs.Movement.{is_at, prevent}

-- the province of an order's unit
abbrev pub prov : PlacedOrder → ℕ
prov o = o.unit.place.prov

-- where an order leads a unit from its place
abbrev pub leads_to : Place → Order → Place
leads_to a (Move to via) = to
leads_to a Hold = a
leads_to a (SupportHold at) = a
leads_to a (SupportMove at to) = a
leads_to a (Convoy at to) = a
leads_to a (Retreat to) = a
leads_to a Disband = a
leads_to a Build = a
leads_to a Remove = a

-- the unit of an order, at its destination
abbrev pub at_destination : PlacedOrder → AUnit
at_destination o = record { power = o.unit.power; kind = o.unit.kind; place = leads_to o.unit.place o.order }

-- the move of the unit succeeds
abbrev pub has_moved : Assignment → PlacedOrder → Bool
has_moved a o = a (Moves (prov o))

-- the unit of an order where it stands after the movement, unless it is dislodged: at its destination where its move succeeds
abbrev pub unit_after : Assignment → PlacedOrder → AUnit
unit_after a o = if has_moved a o then at_destination o else o.unit

-- the move leads into that province, and succeeds
abbrev pub enters : Assignment → ℕ → PlacedOrder → Bool
enters a p o = is_at (destination o.order) p && has_moved a o

-- who entered a province
abbrev pub entrant : Assignment → List PlacedOrder → ℕ → Option PlacedOrder
entrant a orders p = find (enters a p) orders

-- a unit that stays and whose province a successful move entered is dislodged
abbrev pub is_driven_out : Assignment → List PlacedOrder → PlacedOrder → Bool
is_driven_out a orders o = not (has_moved a o) && is_some (entrant a orders (prov o))

-- where the attacker came from; none where it came by convoy
abbrev pub origin : Chart → Option PlacedOrder → Option ℕ
origin m None = None
origin m (Some o) = if is_convoyed m (Some o) then None else Some (prov o)

-- a dislodged unit, with its attacker's origin
abbrev pub dislodged_unit : Chart → Assignment → List PlacedOrder → PlacedOrder → Dislodged
dislodged_unit m a orders o = record { unit = o.unit; origin = origin m (entrant a orders (prov o)) }

-- the units that stand after the movement
abbrev pub standing_after : Assignment → List PlacedOrder → List AUnit
standing_after a orders = map (unit_after a) (filter (λ o. not (is_driven_out a orders o)) orders)

-- the units that it dislodged
abbrev pub dislodged_after : Chart → Assignment → List PlacedOrder → List Dislodged
dislodged_after m a orders = map (dislodged_unit m a orders) (filter (is_driven_out a orders) orders)

-- the move leads into that province, fails, and has prevent strength there
abbrev pub contends : Chart → Assignment → List PlacedOrder → ℕ → PlacedOrder → Bool
contends m a orders p o = is_at (destination o.order) p && (not (has_moved a o) && nat_lt 0 (prevent (situation m orders) a (prov o) p))

-- a standoff: a failed move into the province had prevent strength, and nobody stands there after the movement
abbrev pub is_standoff_after : Chart → Assignment → List PlacedOrder → List AUnit → ℕ → Bool
is_standoff_after m a orders us p = list_any (contends m a orders p) orders && not (list_any (λ u. u.place.prov == p) us)

-- the standoff provinces, where these units stand
abbrev pub standoffs_after : Chart → Assignment → List PlacedOrder → List AUnit → List ℕ
standoffs_after m a orders us = filter (is_standoff_after m a orders us) (provs m)

-- the board with all dislodged units
abbrev pub moved_board : Chart → Position → Assignment → List PlacedOrder → Position
moved_board m b a orders = record {
  units = standing_after a orders;
  dislodged = dislodged_after m a orders;
  standoff = standoffs_after m a orders (standing_after a orders);
  owners = b.owners;
  phase = b.phase;
  intent = b.intent;
}

-- a dislodged unit has a place to retreat to
abbrev pub may_go : Chart → Position → Dislodged → Bool
may_go m b d = nat_lt 0 (length (retreats_of m b d))

-- a dislodged unit without one is destroyed at once
abbrev pub without_destroyed : Chart → Position → Position
without_destroyed m b = record b { dislodged = filter (may_go m b) b.dislodged }

-- the board after a movement
abbrev pub after_moves : Chart → Position → Assignment → List PlacedOrder → Position
after_moves m b a orders = without_destroyed m (moved_board m b a orders)
