use Rattle.dip_turn_papers.proofs.ToldLaws.{orders_told}
use Rattle.dip_turn_papers.proofs.laws.orders_are_told.Goals as goal

pub returns : goal.returns
returns c = orders_told
