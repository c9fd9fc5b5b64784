use Rattle.std.proofs.Common.{◌≡◌, ◌≤◌, drop, length}
use Rattle.dip_decide_table.specs.Rows.{rows_of}
use Rattle.dip_decide_table.specs.Placed.{backings_among, entry}
use Rattle.dip_decide_table.proofs.table.backings.Given as goal

abbrev pub invariant-loop-left : goal.invariant-loop-left
invariant-loop-left l = record {
  backed : l.backed.items ≡ backings_among (entry l.rows) (rows_of (drop l.left l.orders) l.map);
  within : l.left ≤ length l.orders;
}

abbrev pub decreases-loop-left : goal.decreases-loop-left
decreases-loop-left l = l.left
