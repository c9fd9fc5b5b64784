use Rattle.dip_desk_machine.proofs.Histories.{settled}
use Rattle.dip_desk_machine.proofs.laws.settled_by_view.Goals as goal

pub returns : goal.returns
returns c = settled
