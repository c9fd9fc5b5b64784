use Rattle.dip_decide_laws.proofs.PlayLemmas as play
use Rattle.dip_decide_laws.proofs.laws.enterers_are_strongest.Goals as goal

pub returns : goal.returns
returns c m b orders a w x q d there here entered goes apart way loser = play.outdone m b orders a d w x q there here entered goes apart way loser
