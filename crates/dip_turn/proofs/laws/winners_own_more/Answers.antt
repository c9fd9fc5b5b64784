use Rattle.dip_turn.proofs.CalendarLemmas.{played_fairly}
use Rattle.dip_turn.proofs.WinnerLemmas.{winners_are_one}
use Rattle.dip_turn.proofs.laws.winners_own_more.Goals as goal

pub returns-clause-more : goal.returns-clause-more
returns-clause-more c m b pending new report power h won = played_fairly m b pending new report power h won

pub returns-clause-alone : goal.returns-clause-alone
returns-clause-alone c = winners_are_one
