use Rattle.std.proofs.Common.{◌≡◌, true, Bool, rules}
use Rattle.dip_orders.specs.Given.{AreGiven, IsEachGiven}
use Rattle.dip_desk_games.specs.ByPlace.{are_by_place}
use Rattle.dip_check_papers.proofs.Coming.{ok_weaker}
use Rattle.dip_check_papers.proofs.Listed.{apart}
use Rattle.dip_check_papers.proofs.given.are_given.Goals as goal

pub returns-clause-given : goal.returns-clause-given
returns-clause-given c =
    let m = c.args.map.now in
    let b = c.args.board.now in
    let os = c.args.orders.now in
    let placed : are_by_place os ≡ true = search rules in
    ok_weaker (λ (r : Bool). r ≡ true → IsEachGiven m b os) (λ (r : Bool). r ≡ true → AreGiven m b os) c.are_each_given.result
    (λ r each yes. record { each = each yes; apart = λ power. apart power os placed }) c.are_each_given.ensures.given

pub returns-clause-taken : goal.returns-clause-taken
returns-clause-taken c =
    let m = c.args.map.now in
    let b = c.args.board.now in
    let os = c.args.orders.now in
    ok_weaker (λ (r : Bool). IsEachGiven m b os → r ≡ true) (λ (r : Bool). AreGiven m b os → are_by_place os ≡ true → r ≡ true) c.are_each_given.result
    (λ r each given placed. each given.each) c.are_each_given.ensures.taken
