use Rattle.dip_decide.proofs.Marked.{filled_none}
use Rattle.dip_decide.proofs.worklist.Worklist.with_capacity.Goals as goal

pub invariant_of-result : goal.invariant_of-result
invariant_of-result c = filled_none c.in_ok-list.list.items c.no_marks.result c.no_marks.ensures
