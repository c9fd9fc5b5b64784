-- What is handed over when a phase is adjudicated: orders that powers gave, each beside the others of its power.
use Rattle.std.specs.Prelude.{◌≡◌, ℕ, ◌==◌, true, Contains, List, filter}
use Rattle.dip_map.specs.Charts.{Chart, are_units_single}
use Rattle.dip_map.specs.Boards.{Position}
use Rattle.dip_orders.specs.Laws.{IsGiven}
use Rattle.dip_orders_placed.specs.Standing.{units_of}
use Rattle.dip_orders_placed.specs.declared.placed.PlacedOrder.{PlacedOrder}

-- the orders of one power among those of all
abbrev pub orders_of_power : ℕ → List PlacedOrder → List PlacedOrder
orders_of_power power pending = filter (λ o. o.unit.power == power) pending

-- each order can be given by its power beside that power's others
abbrev pub IsEachGiven : Chart → Position → List PlacedOrder → Type 0
IsEachGiven m b pending =
    (o : PlacedOrder) → Contains pending o → IsGiven m b o.unit.power (orders_of_power o.unit.power pending) o

-- orders as they stand on a board: each can be given beside the others of its power, and no power has two in one province
pub record AreGiven (m : Chart) (b : Position) (pending : List PlacedOrder) : Type 0 where
  pub each : IsEachGiven m b pending
  pub apart : (power : ℕ) → are_units_single (units_of (orders_of_power power pending)) ≡ true
