use Rattle.dip_turn.proofs.CentreLaws.{played_centres}
use Rattle.dip_turn.proofs.WinnerLemmas.{only_centres_are_owned}
use Rattle.dip_turn.proofs.laws.centres_change_in_fall.Goals as goal

pub returns-clause-hands : goal.returns-clause-hands
returns-clause-hands c m b pending new report h = played_centres m b pending new report h

pub returns-clause-centres : goal.returns-clause-centres
returns-clause-centres c = only_centres_are_owned
