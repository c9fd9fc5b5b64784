use Rattle.dip_desk_machine.proofs.Histories.{answered_from_seen}
use Rattle.dip_desk_machine.proofs.laws.answered_from_what_is_seen.Goals as goal

pub returns : goal.returns
returns c = answered_from_seen
