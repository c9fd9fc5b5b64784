use Rattle.std.proofs.Common.{◌≡◌, drop}
use Rattle.dip_map_chart.specs.Checks.{rest_has_own_units}
use Rattle.dip_map_chart.proofs.parts.Parts.has_own_units.Given as goal

abbrev pub invariant-loop-number : goal.invariant-loop-number
invariant-loop-number l = rest_has_own_units l.number (drop l.number l.self.realms) ≡ rest_has_own_units 0 l.self.realms
