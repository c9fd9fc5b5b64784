use Rattle.dip_turn.proofs.OneWayLemmas.{plays_once}
use Rattle.dip_turn.proofs.laws.phases_have_one_result.Goals as goal

pub returns : goal.returns
returns c m b pending new other one two x y = plays_once m b pending new other one two x y
