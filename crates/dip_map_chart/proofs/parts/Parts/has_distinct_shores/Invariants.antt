use Rattle.std.proofs.Common.{◌≡◌, drop}
use Rattle.dip_map_chart.specs.Checks.{rest_of_shores}
use Rattle.dip_map_chart.proofs.parts.Parts.has_distinct_shores.Given as goal

abbrev pub invariant-loop-number : goal.invariant-loop-number
invariant-loop-number l = rest_of_shores l.self l.p l.number (drop l.number l.shores) ≡ rest_of_shores l.self l.p 0 l.shores
