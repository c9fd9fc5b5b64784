use Rattle.std.proofs.Common.{◌≡◌, drop}
use Rattle.dip_map_text.specs.Stated.{each, unit_at}
use Rattle.dip_map_file.proofs.Front.{with_front}
use Rattle.dip_map_text.proofs.stated.units_of.Given as goal

abbrev pub invariant-loop-unit : goal.invariant-loop-unit
invariant-loop-unit l =
    with_front l.found.items (each (unit_at l.draft l.power) (drop l.unit-index l.units)) ≡ each (unit_at l.draft l.power) l.units
