use Rattle.dip_desk_laws.proofs.Others as others
use Rattle.dip_desk_laws.proofs.laws.shown_by_others.Goals as goal

pub returns-clause-unseen : goal.returns-clause-unseen
returns-clause-unseen c = others.unseen

pub returns-clause-shown : goal.returns-clause-shown
returns-clause-shown c = others.shown_as_brought

pub returns-clause-alike : goal.returns-clause-alike
returns-clause-alike c = others.alike

pub returns-clause-grey : goal.returns-clause-grey
returns-clause-grey c = others.grey_unsigned

pub returns-clause-look_alike : goal.returns-clause-look_alike
returns-clause-look_alike c = others.look_alike
