use Rattle.std.proofs.Common.{◌≤◌, drop, length}
use Rattle.dip_decide_table.specs.Rows.{rows_of}
use Rattle.dip_decide_table.specs.Columns.{AreColumns}
use Rattle.dip_decide_table.proofs.table.columns_of.Given as goal

abbrev pub invariant-loop-left : goal.invariant-loop-left
invariant-loop-left l = record {
  columns : AreColumns l.map (rows_of (drop l.left l.orders) l.map) l.columns;
  within : l.left ≤ length l.orders;
}

abbrev pub decreases-loop-left : goal.decreases-loop-left
decreases-loop-left l = l.left
