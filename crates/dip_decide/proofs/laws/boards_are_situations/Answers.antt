use Rattle.dip_decide.proofs.Situated.{situated}
use Rattle.dip_decide.proofs.laws.boards_are_situations.Goals as goal

pub returns : goal.returns
returns c m b orders o = situated m orders o.in_force (rw o.units o.is_of.apart)
