use Rattle.std.proofs.Common.{◌+◌, length}
use Rattle.dip_decide_rules.specs.Given.{situation_of, known_of}
use Rattle.dip_decide_rules.specs.Steps.{steps_of, decisions}
use Rattle.dip_decide_rules.specs.Results.{mentioners}
use Rattle.dip_decide.specs.Working.{weight, Counts, IsWorked}
use Rattle.dip_decide.proofs.working.work_off.Given as goal

abbrev pub invariant-loop-d : goal.invariant-loop-d
invariant-loop-d l = IsWorked (situation_of l.table) (steps_of l.fn.steps.items) (known_of l.fn.values) (steps_of l.steps.items) (known_of l.values) l.work l.tests × Counts (steps_of l.fn.steps.items) l.fn.tests (steps_of l.steps.items) l.tests

abbrev pub decreases-loop-d : goal.decreases-loop-d
decreases-loop-d l = length l.work + weight (mentioners (situation_of l.table)) (known_of l.values) (decisions l.table.places.items)
