use Rattle.dip_check_laws.proofs.Decided.{movements_are_decided}
use Rattle.dip_check_laws.proofs.laws.right_movements_are_decided.Goals as goal

pub returns : goal.returns
returns c m = movements_are_decided m c.explained_is_lawful.ensures.equations
