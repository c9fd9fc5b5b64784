use Rattle.std.proofs.Common.{◌≡◌, drop}
use Rattle.dip_store_tables.specs.Boards.{code, owner_in}
use Rattle.dip_store_tables.proofs.centres.owner_of.Given as goal

abbrev pub invariant-loop-row : goal.invariant-loop-row
invariant-loop-row l = owner_in l.map (drop l.row-index l.rows) (code l.map l.p) ≡ owner_in l.map l.rows (code l.map l.p)
