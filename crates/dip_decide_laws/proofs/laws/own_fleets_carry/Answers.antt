use Rattle.dip_decide_laws.proofs.MeaningLemmas.{held_still, means_the_same, own_carry}
use Rattle.dip_decide_laws.proofs.laws.own_fleets_carry.Goals as goal

pub returns-clause-carried : goal.returns-clause-carried
returns-clause-carried c m orders o q to way = own_carry m orders o q to way

pub returns-clause-kept : goal.returns-clause-kept
returns-clause-kept c m orders o = means_the_same m orders o

pub returns-clause-held : goal.returns-clause-held
returns-clause-held c m b orders test same quiet = held_still m test b.intent orders same quiet
