use Rattle.dip_decide_laws.proofs.PlayLemmas as play
use Rattle.dip_decide_laws.proofs.laws.units_without_moves_stay.Goals as goal

pub returns : goal.returns
returns c m b orders a o d there still = play.stays m b orders a d o there still
