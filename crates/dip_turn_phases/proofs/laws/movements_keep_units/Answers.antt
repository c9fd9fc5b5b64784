use Rattle.dip_turn_phases.proofs.KeptLemmas as kept
use Rattle.dip_turn_phases.proofs.laws.movements_keep_units.Goals as goal

pub returns : goal.returns
returns c = kept.movements_keep_units
