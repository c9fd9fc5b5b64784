use Rattle.std.proofs.Common.{◌≡◌, drop}
use Rattle.dip_map_chart.specs.Checks.{rest_is_mutual}
use Rattle.dip_map_chart.proofs.parts.Parts.is_mutual_by_land.Given as goal

abbrev pub invariant-loop-number : goal.invariant-loop-number
invariant-loop-number l = rest_is_mutual l.self l.number (drop l.number l.self.provinces) ≡ rest_is_mutual l.self 0 l.self.provinces
