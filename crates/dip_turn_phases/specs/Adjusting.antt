-- What builds and removals make of a board.
use Rattle.std.specs.Prelude.{ℕ, ◌==◌, ◌-◌, not, ◌&&◌, Bool, nat_lt, List, [], ◌++◌, map, filter, flat_map, count_by, Option, None, Some, if◌then◌else◌}
use Rattle.std.specs.List.{list_any, filter_map}
use Rattle.dip_names.specs.declared.names.Unit.{Unit as AUnit}
use Rattle.dip_map.specs.Charts.{Chart, powers}
use Rattle.dip_map.specs.Boards.{Position}
use Rattle.dip_orders_placed.specs.Allowances.{builds_due, removals_due}
use Rattle.dip_orders_placed.specs.Standing.{is_same_unit}
use Rattle.dip_orders.specs.Conditions.{is_build, is_remove}
use Rattle.dip_orders_placed.specs.declared.placed.PlacedOrder.{PlacedOrder}
use Rattle.dip_turn_phases.specs.Disorder.{in_disorder}
use Rattle.dip_turn_phases.specs.declared.lines.Waiver.{Waiver}

-- the units of the builds among these orders
abbrev pub units_built : List PlacedOrder → List AUnit
units_built pending = map (λ o. o.unit) (filter (λ o. is_build o.order) pending)

-- the removal of the unit stands
abbrev pub is_given : List PlacedOrder → AUnit → Bool
is_given pending u = list_any (λ o. is_remove o.order && is_same_unit o.unit u) pending

-- the units whose removal stands
abbrev pub units_given : Position → List PlacedOrder → List AUnit
units_given b pending = filter (is_given pending) b.units

-- the units without those
abbrev pub units_kept : Position → List PlacedOrder → List AUnit
units_kept b pending = filter (λ u. not (is_given pending u)) b.units

-- how many builds, and how many removals, of the power stand
abbrev pub builds_given : List PlacedOrder → ℕ → ℕ
builds_given pending power = count_by (λ o. is_build o.order && (o.unit.power == power)) pending

abbrev pub removals_given : List PlacedOrder → ℕ → ℕ
removals_given pending power = count_by (λ o. is_remove o.order && (o.unit.power == power)) pending

-- how many removals the power still owes
abbrev pub removals_owed : Position → List PlacedOrder → ℕ → ℕ
removals_owed b pending power = removals_due b power - removals_given pending power

-- those of these units that are the power's
abbrev pub units_of_power : ℕ → List AUnit → List AUnit
units_of_power power us = filter (λ u. u.power == power) us

-- the units of a power that are removed in disorder, in the order in which they go
abbrev pub disorder_of : Chart → Position → List PlacedOrder → ℕ → List AUnit
disorder_of m b pending power = in_disorder m power (removals_owed b pending power) (units_of_power power (units_kept b pending))

-- all that are removed in disorder, power by power
abbrev pub disorder : Chart → Position → List PlacedOrder → List AUnit
disorder m b pending = flat_map (disorder_of m b pending) (powers m)

-- one of these stands where the unit does
abbrev pub is_among : List AUnit → AUnit → Bool
is_among us u = list_any (λ v. v.place.prov == u.place.prov) us

-- the units that were there and stay
abbrev pub units_staying : Chart → Position → List PlacedOrder → List AUnit
units_staying m b pending = filter (λ u. not (is_among (disorder m b pending) u)) (units_kept b pending)

-- the board after the builds and removals
abbrev pub after_adjustment : Chart → Position → List PlacedOrder → Position
after_adjustment m b pending = record {
  units = units_staying m b pending ++ units_built pending;
  dislodged = [];
  standoff = [];
  owners = b.owners;
  phase = b.phase;
  intent = b.intent;
}

-- how many builds that are due the power lets go
abbrev pub builds_waived : Chart → Position → List PlacedOrder → ℕ → ℕ
builds_waived m b pending power = builds_due m b power - builds_given pending power

abbrev pub waiver : Chart → Position → List PlacedOrder → ℕ → Option Waiver
waiver m b pending power =
    if nat_lt 0 (builds_waived m b pending power)
    then Some (record { power = power; builds = builds_waived m b pending power })
    else None

-- the waived builds, by power
abbrev pub waivers : Chart → Position → List PlacedOrder → List Waiver
waivers m b pending = filter_map (waiver m b pending) (powers m)
