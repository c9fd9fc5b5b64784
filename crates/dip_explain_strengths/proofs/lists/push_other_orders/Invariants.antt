use Rattle.std.proofs.Common.{◌≡◌, ◌++◌, drop, string_bytes}
use Rattle.dip_explain_strengths.specs.Matters.{order_in, others}
use Rattle.dip_explain_strengths.proofs.lists.push_other_orders.Given as goal

abbrev pub invariant-loop-p : goal.invariant-loop-p
invariant-loop-p l = string_bytes l.out ++ others (order_in l.map l.orders) (drop l.p-index l.units) ≡ string_bytes l.initial.out ++ others (order_in l.map l.orders) (l.units)
