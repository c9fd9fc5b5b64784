use Rattle.std.proofs.Common.{◌+◌, ◌≤◌, cond}
use Rattle.dip_decide_rules.specs.Given.{situation_of, known_of}
use Rattle.dip_decide_rules.specs.Results.{forced_in}
use Rattle.dip_decide_rules.specs.Steps.{steps_of, decisions, IsReached}
use Rattle.dip_decide.specs.Working.{IsWork}
use Rattle.dip_decide_rules.proofs.Counting.{open_among}
use Rattle.dip_decide.proofs.turns.explain.Given as goal

abbrev pub invariant-turns : goal.invariant-turns
invariant-turns l = IsReached (situation_of l.table) l.goes_on (steps_of l.steps.items) (known_of l.values) × (IsWork (situation_of l.table) (known_of l.values) l.work l.tests × (forced_in (steps_of l.steps.items) ≤ l.tests))

abbrev pub decreases-turns : goal.decreases-turns
decreases-turns l = cond l.goes_on (1 + open_among (known_of l.values) (decisions l.table.places.items)) 0
