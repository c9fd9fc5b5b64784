use Rattle.std.proofs.Common.{take}
use Rattle.dip_decide_rules.specs.Given.{situation_of}
use Rattle.dip_decide_rules.specs.Chains.{IsSpread}
use Rattle.dip_decide_rules.proofs.chains.spread.Given as goal

abbrev pub invariant-loop-fleet : goal.invariant-loop-fleet
invariant-loop-fleet l = IsSpread (situation_of l.table).next (take l.fleet-index l.fleets) l.from l.fn.reached.items l.reached.items
