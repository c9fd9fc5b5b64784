use Rattle.dip_desk_machine.proofs.Draws as draws
use Rattle.dip_desk_machine.proofs.laws.draws_are_agreed.Goals as goal

pub returns : goal.returns
returns c = draws.draws_agreed
