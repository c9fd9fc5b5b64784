use Rattle.dip_map.specs.Boards.{Position, IsOf}
use Rattle.dip_desk_machine.proofs.LawfulOrders.{AreRead}
use Rattle.dip_check_laws.proofs.Staying.{histories_right, stays_games}
use Rattle.dip_check_laws.proofs.laws.games_stay_right.Goals as goal

pub returns-clause-stays : goal.returns-clause-stays
returns-clause-stays c =
    let m = c.args.map.now in
    let read : (b : Position) → IsOf m b → AreRead m b = λ b of. record {
      lawful = λ power beside line o is. c.orders_are_lawful.ensures m b power beside line o c.facts.ensures of is;
      read = λ power beside o lawful. c.lawful_orders_are_read.ensures m b power beside o c.facts.ensures of lawful;
      alone = λ power beside line o is. c.orders_are_read_again.ensures.alone m b power beside line o is;
    } in
    stays_games m read

pub returns-clause-histories : goal.returns-clause-histories
returns-clause-histories c =
    let m = c.args.map.now in
    let read : (b : Position) → IsOf m b → AreRead m b = λ b of. record {
      lawful = λ power beside line o is. c.orders_are_lawful.ensures m b power beside line o c.facts.ensures of is;
      read = λ power beside o lawful. c.lawful_orders_are_read.ensures m b power beside o c.facts.ensures of lawful;
      alone = λ power beside line o is. c.orders_are_read_again.ensures.alone m b power beside line o is;
    } in
    histories_right m c.lawful_states_stay_lawful.ensures.stays (stays_games m read)
