use Rattle.dip_desk_laws.proofs.Mastering.{replies_alike}
use Rattle.dip_desk_laws.proofs.laws.masters_replies_are_alike.Goals as goal

pub returns : goal.returns
returns c = replies_alike
