use Rattle.dip_map.specs.Boards.{Position, IsOf}
use Rattle.dip_desk_machine.proofs.LawfulOrders.{AreRead}
use Rattle.dip_check_laws.proofs.Staying.{published_is_next}
use Rattle.dip_check_laws.proofs.laws.what_is_published_is_right.Goals as goal

pub returns : goal.returns
returns c =
    let m = c.args.map.now in
    let read : (b : Position) → IsOf m b → AreRead m b = λ b of. record {
      lawful = λ power beside line o is. c.orders_are_lawful.ensures m b power beside line o c.facts.ensures of is;
      read = λ power beside o lawful. c.lawful_orders_are_read.ensures m b power beside o c.facts.ensures of lawful;
      alone = λ power beside line o is. c.orders_are_read_again.ensures.alone m b power beside line o is;
    } in
    published_is_next m read
