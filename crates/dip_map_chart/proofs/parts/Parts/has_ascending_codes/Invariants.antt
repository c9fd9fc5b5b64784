use Rattle.std.proofs.Common.{◌≡◌, drop}
use Rattle.dip_map_chart.specs.Charts.{are_ascending_by}
use Rattle.dip_map_chart.proofs.parts.Parts.has_ascending_codes.Given as goal

abbrev pub invariant-loop-number : goal.invariant-loop-number
invariant-loop-number l = are_ascending_by (λ r. r.code) (drop l.number l.self.provinces) ≡ are_ascending_by (λ r. r.code) l.self.provinces
