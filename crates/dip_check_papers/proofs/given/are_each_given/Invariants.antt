use Rattle.std.proofs.Common.{drop}
use Rattle.std.specs.List.{AllByRecursion}
use Rattle.dip_orders.specs.Given.{orders_of_power}
use Rattle.dip_orders.specs.Laws.{IsGiven}
use Rattle.dip_check_papers.proofs.given.are_each_given.Given as goal

abbrev pub invariant-loop-order : goal.invariant-loop-order
invariant-loop-order l =
    AllByRecursion (λ o. IsGiven l.map l.board o.unit.power (orders_of_power o.unit.power l.orders) o) (drop l.order-index l.orders)
    → AllByRecursion (λ o. IsGiven l.map l.board o.unit.power (orders_of_power o.unit.power l.orders) o) l.orders
