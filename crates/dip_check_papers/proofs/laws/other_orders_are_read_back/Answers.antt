use Rattle.dip_check_papers.proofs.Reading.{given_are_read_back, retreats_are_read_back}
use Rattle.dip_check_papers.proofs.laws.other_orders_are_read_back.Goals as goal

pub returns-clause-given : goal.returns-clause-given
returns-clause-given c = given_are_read_back c.orders_are_read_again.ensures.again c.orders_are_read_again.ensures.alone

pub returns-clause-retreats : goal.returns-clause-retreats
returns-clause-retreats c = retreats_are_read_back c.orders_are_read_again.ensures.again c.orders_are_read_again.ensures.alone c.lawful_orders_are_read.ensures
