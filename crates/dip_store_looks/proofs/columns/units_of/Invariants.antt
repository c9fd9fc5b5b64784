use Rattle.std.proofs.Common.{◌≡◌, map, take}
use Rattle.dip_store_looks.specs.Shown.{shown_unit}
use Rattle.dip_store_looks.proofs.columns.units_of.Given as goal

abbrev pub invariant-loop-row : goal.invariant-loop-row
invariant-loop-row l = l.units.items ≡ map shown_unit (take l.row-index l.rows)
