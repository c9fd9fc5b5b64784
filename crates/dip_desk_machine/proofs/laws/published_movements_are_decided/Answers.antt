use Rattle.dip_desk_machine.proofs.Publishing.{movements_decided}
use Rattle.dip_desk_machine.proofs.laws.published_movements_are_decided.Goals as goal

pub returns : goal.returns
returns c m = movements_decided m c.explained_is_lawful.ensures.equations
