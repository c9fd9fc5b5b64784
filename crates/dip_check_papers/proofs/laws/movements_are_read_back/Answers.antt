use Rattle.dip_check_papers.proofs.Reading.{standing_is_read_back, standing_is_settled}
use Rattle.dip_check_papers.proofs.laws.movements_are_read_back.Goals as goal

pub returns-clause-read : goal.returns-clause-read
returns-clause-read c = standing_is_read_back c.orders_are_read_again.ensures.again c.orders_are_read_again.ensures.alone c.lawful_orders_are_read.ensures

pub returns-clause-settled : goal.returns-clause-settled
returns-clause-settled c = standing_is_settled
