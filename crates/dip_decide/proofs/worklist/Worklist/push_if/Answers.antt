use Rattle.dip_decide.proofs.Marked.{filled_if}
use Rattle.dip_decide.proofs.worklist.Worklist.push_if.Goals as goal

pub invariant_of-self-2 : goal.invariant_of-self-2
invariant_of-self-2 c =
    let put = c.in_ok-write_at.ensures in
    rw c.mark_of-mark.ensures.is (filled_if c.self.inside.many c.from.result c.self.inside.list.items c.write_at.new.list.items c.self.inside.marks c.args.d.now c.args.is_wanted c.mark_of-mark.ensures.unit (rw c.mark_of-mark.ensures.is at c.mark_of-mark.ensures.low)
    put.kept put.put put.there (rw c.mark_of-mark.ensures.is at c.from.ensures) c.self.invariant)
