use Rattle.std.proofs.Common.{take}
use Rattle.dip_decide_rules.specs.Given.{situation_of, known_of}
use Rattle.dip_decide_rules.specs.Steps.{moves_of}
use Rattle.dip_decide.specs.Working.{IsTaken}
use Rattle.dip_decide.proofs.waking.put_each.Given as goal

abbrev pub invariant-loop-unit : goal.invariant-loop-unit
invariant-loop-unit l = IsTaken (situation_of l.table) (known_of l.values) l.e (moves_of (take l.unit-index l.units)) l.fn.work l.work
