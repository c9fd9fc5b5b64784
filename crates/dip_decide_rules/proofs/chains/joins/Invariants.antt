use Rattle.std.proofs.Common.{◌-◌, length}
use Rattle.dip_decide_rules.specs.Given.{situation_of}
use Rattle.dip_decide_rules.specs.Chains.{IsSeeking}
use Rattle.dip_decide_rules.proofs.chains.joins.Given as goal

abbrev pub invariant-loop-visited : goal.invariant-loop-visited
invariant-loop-visited l = IsSeeking (situation_of l.table).next l.fleets l.to l.fn.from l.reached.items l.visited

abbrev pub decreases-loop-visited : goal.decreases-loop-visited
decreases-loop-visited l = length l.fleets - l.visited
