use Rattle.std.proofs.Common.{◌≡◌, drop, length, replicate, Some, false}
use Rattle.dip_decide_rules.specs.Marks.{with_steps}
use Rattle.dip_decide.proofs.resolving.broken_in.Given as goal

abbrev pub invariant-loop-step : goal.invariant-loop-step
invariant-loop-step l = with_steps (drop l.step-index l.steps) l.marks.items ≡ with_steps l.steps (replicate (length l.map.provinces) (Some false))
