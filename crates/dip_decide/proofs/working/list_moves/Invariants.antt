use Rattle.std.proofs.Common.{take}
use Rattle.dip_decide_rules.specs.Given.{known_of}
use Rattle.dip_decide_rules.specs.Steps.{moves_of}
use Rattle.dip_decide.specs.Working.{HasOpen}
use Rattle.dip_decide.proofs.working.list_moves.Given as goal

abbrev pub invariant-loop-unit : goal.invariant-loop-unit
invariant-loop-unit l = HasOpen (known_of l.values) (moves_of (take l.unit-index l.units)) l.fn.work l.work
