use Rattle.dip_decide_laws.proofs.PlayLemmas as play
use Rattle.dip_decide_laws.proofs.laws.dislodged_by_others_alone.Goals as goal

pub returns : goal.returns
returns c m b orders a o w d there here driven = play.overpowered m b orders a d o w there here driven
