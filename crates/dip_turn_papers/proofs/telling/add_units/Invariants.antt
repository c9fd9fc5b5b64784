use Rattle.std.proofs.Common.{◌≡◌, ◌++◌, map, take}
use Rattle.dip_turn_papers.specs.Papers.{unit_line}
use Rattle.dip_turn_papers.proofs.telling.add_units.Given as goal

abbrev pub invariant-loop-unit : goal.invariant-loop-unit
invariant-loop-unit l = l.lines.items ≡ l.initial.lines.items ++ map (unit_line l.order l.told) (take l.unit-index l.units)
