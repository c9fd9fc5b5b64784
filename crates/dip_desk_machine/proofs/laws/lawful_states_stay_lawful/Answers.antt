use Rattle.dip_map.specs.Boards.{Position, IsOf}
use Rattle.dip_desk_machine.proofs.LawfulOrders.{AreRead}
use Rattle.dip_desk_machine.proofs.LawfulStates.{StaysOf, stays_lawful, stays_of}
use Rattle.dip_desk_machine.proofs.NeverDamaged.{never_damaged}
use Rattle.dip_desk_machine.proofs.laws.lawful_states_stay_lawful.Goals as goal

pub returns-clause-stays : goal.returns-clause-stays
returns-clause-stays c =
    let m = c.args.map.now in
    let read : (b : Position) → IsOf m b → AreRead m b = λ b of. record {
      lawful = λ power beside line o is. c.orders_are_lawful.ensures m b power beside line o c.facts.ensures of is;
      read = λ power beside o lawful. c.lawful_orders_are_read.ensures m b power beside o c.facts.ensures of lawful;
      alone = λ power beside line o is. c.orders_are_read_again.ensures.alone m b power beside line o is;
    } in
    let stays : StaysOf m =
    stays_of m (λ b pending new report of given played. c.boards_stay_of_their_map.ensures m b pending new report c.facts.ensures of given played) c.winners_own_more.ensures.more in
    stays_lawful m (c.openings_are_of_their_map.ensures m c.facts.ensures) read stays

pub returns-clause-sane : goal.returns-clause-sane
returns-clause-sane c =
    let m = c.args.map.now in
    let read : (b : Position) → IsOf m b → AreRead m b = λ b of. record {
      lawful = λ power beside line o is. c.orders_are_lawful.ensures m b power beside line o c.facts.ensures of is;
      read = λ power beside o lawful. c.lawful_orders_are_read.ensures m b power beside o c.facts.ensures of lawful;
      alone = λ power beside line o is. c.orders_are_read_again.ensures.alone m b power beside line o is;
    } in
    never_damaged m read
