use Rattle.dip_turn.proofs.CentreLaws.{played_fit}
use Rattle.dip_turn.proofs.laws.only_retreats_have_dislodged.Goals as goal

pub returns : goal.returns
returns c m b pending new report h = played_fit m b pending new report h
