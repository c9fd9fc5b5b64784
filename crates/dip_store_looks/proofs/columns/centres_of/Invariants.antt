use Rattle.std.proofs.Common.{◌≡◌, map, take}
use Rattle.dip_store_looks.specs.Shown.{shown_centre}
use Rattle.dip_store_looks.proofs.columns.centres_of.Given as goal

abbrev pub invariant-loop-row : goal.invariant-loop-row
invariant-loop-row l = l.centres.items ≡ map shown_centre (take l.row-index l.rows)
