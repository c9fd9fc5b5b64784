use Rattle.dip_decide_laws.proofs.PlayLemmas as play
use Rattle.dip_decide_laws.proofs.laws.dislodged_give_no_support.Goals as goal

pub returns : goal.returns
returns c m b orders a h d there driven = play.ungiven m b orders a d h there driven
