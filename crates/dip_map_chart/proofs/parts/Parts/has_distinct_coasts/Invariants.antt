use Rattle.std.proofs.Common.{◌≡◌, drop}
use Rattle.dip_map_chart.specs.Checks.{rest_of_coasts}
use Rattle.dip_map_chart.proofs.parts.Parts.has_distinct_coasts.Given as goal

abbrev pub invariant-loop-number : goal.invariant-loop-number
invariant-loop-number l = rest_of_coasts l.self l.number (drop l.number l.self.provinces) ≡ rest_of_coasts l.self 0 l.self.provinces
