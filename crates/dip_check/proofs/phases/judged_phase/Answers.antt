use Rattle.std.proofs.Common.{◌≡◌, ℕ, Bool, true, List, Some, None, ap, sym, subst, ◌∙◌, rules}
use Rattle.dip_map.specs.Boards.{Position}
use Rattle.dip_map.specs.Charts.{Chart}
use Rattle.dip_desk_state.specs.Records.{Public}
use Rattle.dip_desk_state.specs.Rows as rows
use Rattle.dip_desk_games.specs.ByPlace.{are_by_place}
use Rattle.dip_orders.specs.Given.{AreGiven}
use Rattle.dip_orders.specs.Laws.{LawfulOrdersAreRead, OrdersAreLawful, OrdersStandAlone, TextsAreReadAgain}
use Rattle.dip_orders_placed.specs.declared.placed.PlacedOrder.{PlacedOrder}
use Rattle.dip_check.specs.Phases.{IsJudged, IsJudgedBy}
use Rattle.dip_check_papers.specs.Printed.{IsPrinted, orders_printed_at}
use Rattle.dip_check_papers.specs.declared.printed.Printed.{Printed}
use Rattle.dip_check_papers.specs.declared.printed.Printed.TheVariants.{NoOrder, Orders}
use Rattle.dip_check.proofs.Coming.{judged_weaker}
use Rattle.dip_check_papers.proofs.Coming.{ok_weaker, told_unread, told_ungiven}
use Rattle.dip_check_papers.proofs.Judging.{ungiven, unplayed, unread}
use Rattle.dip_check_papers.proofs.MovesBack.{OrderLaws}
use Rattle.dip_check.proofs.phases.judged_phase.Goals as goal

order_laws : TextsAreReadAgain → OrdersStandAlone → OrdersAreLawful → LawfulOrdersAreRead → OrderLaws
order_laws again alone lawful read = record { again = again; alone = alone; lawful = lawful; read = read }

-- what was printed on this board was printed on that one, which is the same
printed_on : (m : Chart) (text : List ℕ) (b d : Position) (r s : Printed) → d ≡ b → r ≡ s → IsPrinted (orders_printed_at m d text d.phase.season) r → IsPrinted (orders_printed_at m b text b.phase.season) s
printed_on m text b d r s same is h = subst (IsPrinted (orders_printed_at m b text b.phase.season)) is (subst (λ (e : Position). IsPrinted (orders_printed_at m e text e.phase.season) r) same h)

taken_on : (m : Chart) (b d : Position) (os qs : List PlacedOrder) (r : Bool) → d ≡ b → qs ≡ os → (AreGiven m d qs → are_by_place qs ≡ true → r ≡ true) → AreGiven m b os → are_by_place os ≡ true → r ≡ true
taken_on m b d os qs r same orders h given placed =
    h (subst (λ (e : Position). AreGiven m e qs) (sym same) (subst (AreGiven m b) (sym orders) given)) (ap are_by_place orders ∙ placed)

pub returns-in-NoOrder : goal.returns-in-NoOrder
returns-in-NoOrder c =
    let m = c.args.map.now in
    let p : Public = rows.public c.args.before.now in
    let lies : c.deref.result.now ≡ c.args.before.now.board.value = search rules in
    let l = order_laws c.orders_are_read_again.ensures.again c.orders_are_read_again.ensures.alone c.orders_are_lawful.ensures c.lawful_orders_are_read.ensures in
    let none : orders_printed_at m p.board c.args.text.now p.board.phase.season ≡ None =
    printed_on m c.args.text.now p.board c.deref.result.now c.in_ok-fault.field-0 (NoOrder c.in-NoOrder.fault) lies c.in-NoOrder.is c.in_ok-fault.ensures in
    ((λ new h. unread l m p c.args.text.now c.facts.ensures c.requires.of_map new h none), told_unread m p c.args.text.now c.in-NoOrder.fault none)

pub returns-then-branch : goal.returns-then-branch
returns-then-branch c =
    let m = c.args.map.now in
    let p : Public = rows.public c.args.before.now in
    let text : List ℕ = c.args.text.now in
    let os : List PlacedOrder = c.as_slice-then-branch.result.now in
    let lies : c.deref.result.now ≡ c.args.before.now.board.value = search rules in
    let l = order_laws c.orders_are_read_again.ensures.again c.orders_are_read_again.ensures.alone c.orders_are_lawful.ensures c.lawful_orders_are_read.ensures in
    let some : orders_printed_at m p.board text p.board.phase.season ≡ Some c.in-Orders.orders.items =
    printed_on m text p.board c.deref.result.now c.in_ok-fault.field-0 (Orders c.in-Orders.orders) lies c.in-Orders.is c.in_ok-fault.ensures in
    let is : orders_printed_at m p.board text p.board.phase.season ≡ Some os = some ∙ ap (λ (xs : List PlacedOrder). Some xs) (sym c.as_slice-then-branch.ensures.value) in
    ok_weaker (IsJudgedBy m p os text) (IsJudged m p text) c.judged_played.result
    (λ j said. judged_weaker m p os text j said is (λ fault told new h. unplayed l m p text c.facts.ensures c.requires.of_map new h os is told.none)) c.judged_played.ensures

pub returns : goal.returns
returns c =
    let m = c.args.map.now in
    let p : Public = rows.public c.args.before.now in
    let text : List ℕ = c.args.text.now in
    let lies : c.deref.result.now ≡ c.args.before.now.board.value = search rules in
    let lies_there : c.deref-in-Orders.result.now ≡ c.args.before.now.board.value = search rules in
    let l = order_laws c.orders_are_read_again.ensures.again c.orders_are_read_again.ensures.alone c.orders_are_lawful.ensures c.lawful_orders_are_read.ensures in
    let some : orders_printed_at m p.board text p.board.phase.season ≡ Some c.in-Orders.orders.items =
    printed_on m text p.board c.deref.result.now c.in_ok-fault.field-0 (Orders c.in-Orders.orders) lies c.in-Orders.is c.in_ok-fault.ensures in
    let taken = taken_on m p.board c.deref-in-Orders.result.now c.in-Orders.orders.items c.as_slice.result.now c.in_ok-are_given-in-Orders.field-0 lies_there c.as_slice.ensures.value c.in_ok-are_given-in-Orders.ensures.taken in (
      (λ new h. ungiven l m p text c.facts.ensures c.requires.of_map new h c.in-Orders.orders.items c.in_ok-are_given-in-Orders.field-0 some taken c.if-branch.false),
      told_ungiven m p text c.in_ok-fault_at-in-Orders.field-0 c.in-Orders.orders.items c.in_ok-are_given-in-Orders.field-0 some taken c.if-branch.false,
    )
