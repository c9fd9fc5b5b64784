use Rattle.dip_turn.proofs.IntentLemmas.{phases_keep_intent}
use Rattle.dip_turn.proofs.laws.phases_keep_the_intent.Goals as goal

pub returns : goal.returns
returns c m b pending new report h = phases_keep_intent m b pending new report h
