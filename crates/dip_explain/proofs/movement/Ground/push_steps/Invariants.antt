use Rattle.std.proofs.Common.{◌≡◌, ◌++◌, drop, string_bytes}
use Rattle.dip_decide_rules.specs.Given.{known_of, situation_of}
use Rattle.dip_decide_rules.specs.Results.{values_in}
use Rattle.dip_explain.specs.Movement.{lines_from}
use Rattle.dip_explain.proofs.movement.Ground.push_steps.Given as goal

abbrev pub invariant-loop-step : goal.invariant-loop-step
invariant-loop-step l =
    string_bytes l.out ++ lines_from l.self.map.now l.self.orders.now (situation_of l.self.table.now) (values_in l.self.resolution.now) (known_of l.known) (drop l.step-index l.step-items)
    ≡ string_bytes l.initial.out ++ lines_from l.self.map.now l.self.orders.now (situation_of l.self.table.now) (values_in l.self.resolution.now) (known_of l.initial.known) l.self.resolution.now.steps.items
