use Rattle.dip_desk_laws.proofs.Repeating.{acts_once}
use Rattle.dip_desk_laws.proofs.RepeatingLater.{acts_once_later}
use Rattle.dip_desk_laws.proofs.laws.letters_act_once.Goals as goal

pub returns-clause-at_once : goal.returns-clause-at_once
returns-clause-at_once c = acts_once

pub returns-clause-later : goal.returns-clause-later
returns-clause-later c = acts_once_later
