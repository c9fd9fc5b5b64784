use Rattle.dip_decide_laws.proofs.PlayLemmas as play
use Rattle.dip_decide_laws.proofs.laws.no_power_cuts_its_own.Goals as goal

pub returns : goal.returns
returns c m b orders a h o d there here helps lost = play.cut_by m b orders a d h o there here helps lost
