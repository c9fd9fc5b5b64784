use Rattle.dip_decide.proofs.Commuting.{commute}
use Rattle.dip_decide.proofs.laws.steps_commute.Goals as goal

pub returns : goal.returns
returns c s k one two f g p q = commute s k one two f g p q
