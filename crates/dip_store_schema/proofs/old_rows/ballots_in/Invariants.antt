use Rattle.std.proofs.Common.{◌≡◌, map, take}
use Rattle.dip_store_schema.specs.Renewing.{shown_ballot}
use Rattle.dip_store_schema.proofs.old_rows.ballots_in.Given as goal

abbrev pub invariant-loop-row : goal.invariant-loop-row
invariant-loop-row l = l.ballots.items ≡ map shown_ballot (take l.row-index l.rows)
