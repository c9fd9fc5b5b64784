use Rattle.dip_desk_machine.proofs.Seeing.{effect_seen}
use Rattle.dip_desk_machine.proofs.laws.effects_are_shown.Goals as goal

pub returns : goal.returns
returns c = effect_seen
