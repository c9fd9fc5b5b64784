use Rattle.std.proofs.Common.{◌≡◌, drop}
use Rattle.dip_map_chart.specs.Checks.{rest_of_shores_is_mutual}
use Rattle.dip_map_chart.proofs.parts.Parts.are_shores_mutual.Given as goal

abbrev pub invariant-loop-number : goal.invariant-loop-number
invariant-loop-number l = rest_of_shores_is_mutual l.self l.prov l.number (drop l.number l.shores) ≡ rest_of_shores_is_mutual l.self l.prov 0 l.shores
