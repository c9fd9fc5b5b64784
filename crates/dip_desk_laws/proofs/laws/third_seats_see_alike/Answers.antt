use Rattle.dip_desk_laws.proofs.Thirds.{thirds_alike}
use Rattle.dip_desk_laws.proofs.laws.third_seats_see_alike.Goals as goal

pub returns : goal.returns
returns c = thirds_alike
