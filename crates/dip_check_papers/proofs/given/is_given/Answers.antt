use Rattle.std.proofs.Common.{◌≡◌, ap, sym, ◌∙◌, Ok, Err, Result, true, false, rules, List, ℕ}
use Rattle.dip_orders.specs.Reading.{order_of}
use Rattle.dip_orders.specs.Texts.{order_text}
use Rattle.dip_orders.specs.declared.faults.OrderFault.{OrderFault}
use Rattle.dip_orders_placed.specs.declared.placed.PlacedOrder.{PlacedOrder}
use Rattle.dip_check_papers.proofs.given.is_given.Goals as goal

ok_of : (x y : PlacedOrder) → ◌≡◌ {A = Result PlacedOrder OrderFault} (Ok x) (Ok y) → x ≡ y
ok_of x y e = cc

never : (e : OrderFault) (x : PlacedOrder) → ◌≡◌ {A = Result PlacedOrder OrderFault} (Err e) (Ok x) → false ≡ true
never e x bad = cc

pub returns-in-Ok-clause-given : goal.returns-in-Ok-clause-given
returns-in-Ok-clause-given c = λ same.
    (c.as_str.result.now, sym c.read_order.ensures.value ∙ c.in-Ok.is ∙ ap (λ (o : PlacedOrder). Ok o) (c.is_same.ensures.same same))

pub returns-in-Ok-clause-taken : goal.returns-in-Ok-clause-taken
returns-in-Ok-clause-taken c = λ given.
    let m = c.args.map.now in
    let b = c.args.board.now in
    let o = c.args.order.now in
    let text : c.as_str.result.now ≡ order_text m o = search rules in
    let read : c.read_order.result ≡ Ok o =
    c.read_order.ensures.value ∙ ap (λ (t : List ℕ). order_of m b o.unit.power c.args.beside.now t) text
    ∙ c.orders_are_read_again.ensures.again m b o.unit.power c.args.beside.now given.0 o c.facts.ensures c.requires.of_map given.1 in
    c.is_same.ensures.itself (ok_of c.in-Ok.placed o (sym c.in-Ok.is ∙ read))

pub returns-clause-taken : goal.returns-clause-taken
returns-clause-taken c = λ given.
    let m = c.args.map.now in
    let b = c.args.board.now in
    let o = c.args.order.now in
    let text : c.as_str.result.now ≡ order_text m o = search rules in
    let read : c.read_order.result ≡ Ok o =
    c.read_order.ensures.value ∙ ap (λ (t : List ℕ). order_of m b o.unit.power c.args.beside.now t) text
    ∙ c.orders_are_read_again.ensures.again m b o.unit.power c.args.beside.now given.0 o c.facts.ensures c.requires.of_map given.1 in
    never c.in-Err.field-0 o (sym c.in-Err.is ∙ read)
