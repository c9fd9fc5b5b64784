use Rattle.std.proofs.Common.{◌≡◌, drop}
use Rattle.dip_decide_rules.specs.Marks.{with_all}
use Rattle.dip_decide.proofs.resolving.mark_all.Given as goal

abbrev pub invariant-loop-p : goal.invariant-loop-p
invariant-loop-p l = with_all (drop l.p-index l.units) l.marks.items ≡ with_all l.units l.fn.marks.items
