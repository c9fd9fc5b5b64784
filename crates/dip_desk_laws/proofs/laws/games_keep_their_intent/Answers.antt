use Rattle.dip_desk_laws.proofs.Intents.{keeps_intent, opens_as_asked}
use Rattle.dip_desk_laws.proofs.laws.games_keep_their_intent.Goals as goal

pub returns-clause-opened : goal.returns-clause-opened
returns-clause-opened c = opens_as_asked

pub returns-clause-kept : goal.returns-clause-kept
returns-clause-kept c m = keeps_intent m c.phases_keep_the_intent.ensures
