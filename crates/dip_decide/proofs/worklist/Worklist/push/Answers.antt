use Rattle.dip_decide.proofs.Marked.{filled_more}
use Rattle.dip_decide.proofs.worklist.Worklist.push.Goals as goal

pub invariant_of-self-2 : goal.invariant_of-self-2
invariant_of-self-2 c =
    let put = c.in_ok-write_at.ensures in
    rw c.mark_of.ensures.is (filled_more c.self.inside.many c.self.inside.list.items c.write_at.new.list.items c.self.inside.marks c.args.d.now c.mark_of.ensures.unit (rw c.mark_of.ensures.is at c.mark_of.ensures.low) put.put put.there
    (rw (← c.self.view_is) at c.requires) c.self.invariant)
