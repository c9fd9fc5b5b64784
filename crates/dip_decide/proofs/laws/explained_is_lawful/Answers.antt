use Rattle.dip_decide.proofs.Cycles.{cycle_moves}
use Rattle.dip_decide_rules.proofs.FromSteps.{satisfied}
use Rattle.dip_decide.proofs.Stands.{unbroken}
use Rattle.dip_decide.proofs.laws.explained_is_lawful.Goals as goal

pub returns-clause-equations : goal.returns-clause-equations
returns-clause-equations c s steps a e = satisfied s steps a e

pub returns-clause-cycles : goal.returns-clause-cycles
returns-clause-cycles c s steps a first rest e i p m = cycle_moves s first rest i steps a e p m

pub returns-clause-convoys : goal.returns-clause-convoys
returns-clause-convoys c s steps a p q fleets i e v g j = unbroken s i p q fleets v g j steps a e
