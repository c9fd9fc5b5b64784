use Rattle.dip_desk_laws.proofs.Standing.{orders_stand}
use Rattle.dip_desk_laws.proofs.laws.orders_stand_as_given.Goals as goal

pub returns : goal.returns
returns c = orders_stand
