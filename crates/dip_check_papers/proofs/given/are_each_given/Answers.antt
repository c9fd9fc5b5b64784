use Rattle.std.proofs.Common.{◌≡◌, List, sym, subst, ◌∙◌}
use Rattle.dip_orders.specs.Given.{orders_of_power}
use Rattle.dip_orders.specs.Laws.{IsGiven}
use Rattle.dip_orders_placed.specs.declared.placed.PlacedOrder.{PlacedOrder}
use Rattle.dip_check_papers.proofs.given.are_each_given.Goals as goal

pub returns-then-not-branch-clause-taken : goal.returns-then-not-branch-clause-taken
returns-then-not-branch-clause-taken c = λ all.
    let m = c.args.map.now in
    let b = c.args.board.now in
    let os = c.args.orders.now in
    let o = c.order-item.result in
    let one : IsGiven m b o.unit.power (orders_of_power o.unit.power os) o = all o (c.loop-order.order-index, c.loop-order-test.true, sym c.order-item.is) in
    let beside : c.as_slice.result.now ≡ orders_of_power o.unit.power os = c.as_slice.ensures.value ∙ c.in_ok-beside.ensures in
    let given : IsGiven m b o.unit.power c.as_slice.result.now o = subst (λ (bs : List PlacedOrder). IsGiven m b o.unit.power bs o) (sym beside) one in
    sym c.if-not-branch.true ∙ c.in_ok-is_given.ensures.taken given
