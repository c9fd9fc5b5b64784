use Rattle.std.proofs.Common.{◌≡◌, ◌++◌, drop, map}
use Rattle.dip_decide_rules.specs.Results.{values_in}
use Rattle.dip_turn_phases.specs.Outcomes.{line_on}
use Rattle.dip_turn_phases.proofs.outcomes.movement_lines.Given as goal

abbrev pub invariant-loop-placed : goal.invariant-loop-placed
invariant-loop-placed l = l.lines.items ++ map (line_on l.map l.moved (values_in l.resolution) l.orders) (drop l.placed-index l.given) ≡ map (line_on l.map l.moved (values_in l.resolution) l.orders) l.given
