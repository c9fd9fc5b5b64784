use Rattle.std.proofs.Common.{◌≡◌, ◌++◌, map, ℕ, None}
use Rattle.dip_decide_table.specs.Rows.{alike_rows}
use Rattle.dip_decide_table.proofs.table.no_orders.Given as goal

abbrev pub invariant-loop-prov : goal.invariant-loop-prov
invariant-loop-prov l = l.rows.items ++ map (λ (p : ℕ). None) l.prov-iterator ≡ alike_rows None l.map
