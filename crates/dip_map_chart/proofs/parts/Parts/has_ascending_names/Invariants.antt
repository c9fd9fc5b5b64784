use Rattle.std.proofs.Common.{◌≡◌, drop}
use Rattle.dip_map_chart.specs.Charts.{are_ascending_by}
use Rattle.dip_map_chart.proofs.parts.Parts.has_ascending_names.Given as goal

abbrev pub invariant-loop-number : goal.invariant-loop-number
invariant-loop-number l = are_ascending_by (λ r. r.name) (drop l.number l.self.realms) ≡ are_ascending_by (λ r. r.name) l.self.realms
