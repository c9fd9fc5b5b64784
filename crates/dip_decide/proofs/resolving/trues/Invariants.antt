use Rattle.std.proofs.Common.{◌≡◌, ◌≤◌, ◌+◌, ◌++◌, ℕ, filter, length, take, Some, false}
use Rattle.std.specs.List.{slice_index_or}
use Rattle.dip_decide_rules.specs.Results.{is_true, trues}
use Rattle.dip_decide.proofs.resolving.trues.Given as goal

abbrev pub invariant-loop-prov : goal.invariant-loop-prov
invariant-loop-prov l = record {
  found : take l.many l.found.items ++ filter (λ (p : ℕ). is_true (slice_index_or l.column p (Some false))) l.prov-iterator ≡ trues l.column l.map;
  room : l.many + length l.prov-iterator ≤ length l.found.items;
}
