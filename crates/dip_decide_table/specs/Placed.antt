-- The units of a table by what their orders name.
use Rattle.std.specs.Prelude.{◌≡◌, ℕ, Bool, List, filter, map, Option, None, Some, if◌then◌else◌}
use Rattle.std.specs.List.{slice_get}
use Rattle.std.specs.Option.{unwrap_or}
use Rattle.dip_orders_placed.specs.declared.placed.Order.{Order}
use Rattle.dip_orders_placed.specs.declared.placed.Order.TheVariants.{SupportHold, SupportMove, Convoy}
use Rattle.dip_orders_placed.specs.declared.placed.PlacedOrder.{PlacedOrder}
use Rattle.dip_map.specs.Charts.{Chart}
use Rattle.dip_decide_table.specs.Matching.{Standing, is_convoyed, is_matched, target_of}
use Rattle.dip_decide_table.specs.Situations.{is_at}

-- what a list has for a province, if it has something
abbrev pub entry : List (Option PlacedOrder) → ℕ → Option PlacedOrder
entry rows p = unwrap_or (slice_get rows p) None

-- where the unit of each row goes, and whether by convoy
abbrev pub targets_of : List (Option PlacedOrder) → List (Option ℕ)
targets_of rows = map target_of rows

abbrev pub convoyed_of : Chart → List (Option PlacedOrder) → List Bool
convoyed_of m rows = map (is_convoyed m) rows

-- the unit that an order supports, whether it matches or not
abbrev pub helped : Order → Option ℕ
helped (SupportHold at) = Some at.prov
helped (SupportMove at to) = Some at.prov
helped _ = None

-- one, if that holds of it
abbrev pub only_if : (ℕ → Bool) → Option ℕ → Option ℕ
only_if f None = None
only_if f (Some p) = if f p then Some p else None

-- the unit that an order supports, if that matches
abbrev pub backed_of : Standing → Option PlacedOrder → Option ℕ
backed_of who None = None
backed_of who (Some o) = only_if (is_matched who o.order) (helped o.order)

-- whom the unit of each row supports, if that matches
abbrev pub backings_among : Standing → List (Option PlacedOrder) → List (Option ℕ)
backings_among who rows = map (backed_of who) rows

abbrev pub backings_of : List (Option PlacedOrder) → List (Option ℕ)
backings_of rows = backings_among (entry rows) rows

-- the unit that an order convoys, whether it matches or not
abbrev pub carried : Order → Option ℕ
carried (Convoy at to) = Some at.prov
carried _ = None

abbrev pub carried_of : Option PlacedOrder → Option ℕ
carried_of None = None
carried_of (Some o) = carried o.order

-- the units whose orders name q
abbrev pub keyed_by : (Option PlacedOrder → Option ℕ) → List ℕ → List (Option PlacedOrder) → ℕ → List ℕ
keyed_by f places rows q = filter (λ w. is_at (f (entry rows w)) q) places
