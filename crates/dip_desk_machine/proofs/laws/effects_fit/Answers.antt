use Rattle.dip_map.specs.Boards.{Position, IsOf}
use Rattle.dip_desk_machine.proofs.Fitting.{effects_fit, lawful_effects_fit}
use Rattle.dip_desk_machine.proofs.LawfulOrders.{AreRead}
use Rattle.dip_desk_machine.proofs.LawfulStates.{StaysOf, stays_of}
use Rattle.dip_desk_machine.proofs.laws.effects_fit.Goals as goal

pub returns-clause-blamed : goal.returns-clause-blamed
returns-clause-blamed c =
    let m = c.args.map.now in
    let read : (b : Position) → IsOf m b → AreRead m b = λ b of. record {
      lawful = λ power beside line o is. c.orders_are_lawful.ensures m b power beside line o c.facts.ensures of is;
      read = λ power beside o lawful. c.lawful_orders_are_read.ensures m b power beside o c.facts.ensures of lawful;
      alone = λ power beside line o is. c.orders_are_read_again.ensures.alone m b power beside line o is;
    } in
    let stays : StaysOf m =
    stays_of m (λ b pending new report of given played. c.boards_stay_of_their_map.ensures m b pending new report c.facts.ensures of given played) c.winners_own_more.ensures.more in
    effects_fit m c.facts.ensures (c.openings_are_of_their_map.ensures m c.facts.ensures) read stays

pub returns-clause-lawful : goal.returns-clause-lawful
returns-clause-lawful c =
    let m = c.args.map.now in
    let read : (b : Position) → IsOf m b → AreRead m b = λ b of. record {
      lawful = λ power beside line o is. c.orders_are_lawful.ensures m b power beside line o c.facts.ensures of is;
      read = λ power beside o lawful. c.lawful_orders_are_read.ensures m b power beside o c.facts.ensures of lawful;
      alone = λ power beside line o is. c.orders_are_read_again.ensures.alone m b power beside line o is;
    } in
    let stays : StaysOf m =
    stays_of m (λ b pending new report of given played. c.boards_stay_of_their_map.ensures m b pending new report c.facts.ensures of given played) c.winners_own_more.ensures.more in
    lawful_effects_fit m c.facts.ensures (c.openings_are_of_their_map.ensures m c.facts.ensures) read stays
