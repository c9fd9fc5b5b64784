use Rattle.dip_decide_rules.proofs.Rounds.{knotted}
use Rattle.dip_decide.proofs.Stands.{some_knotted}
use Rattle.dip_decide.proofs.laws.knots_are_found.Goals as goal

pub returns-clause-some : goal.returns-clause-some
returns-clause-some c s k one i z n none o = some_knotted s i k z n none one o

pub returns-clause-all : goal.returns-clause-all
returns-clause-all c s k d i z n none o = knotted s i k z n none d o
