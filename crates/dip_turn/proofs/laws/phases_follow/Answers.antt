use Rattle.dip_turn.proofs.CalendarLemmas.{played_follows}
use Rattle.dip_turn.proofs.laws.phases_follow.Goals as goal

pub returns : goal.returns
returns c m b pending new report h = played_follows m b pending new report h
