use Rattle.dip_desk_laws.proofs.Stranging.{to_nobody_exactly}
use Rattle.dip_desk_laws.proofs.laws.replies_to_nobody.Goals as goal

pub returns : goal.returns
returns c = to_nobody_exactly
