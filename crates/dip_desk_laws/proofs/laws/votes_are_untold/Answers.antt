use Rattle.dip_desk_laws.proofs.Others as others
use Rattle.dip_desk_laws.proofs.laws.votes_are_untold.Goals as goal

pub returns : goal.returns
returns c = others.votes_untold
