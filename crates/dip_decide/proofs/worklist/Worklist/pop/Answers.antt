use Rattle.std.proofs.Common.{◌≡◌, ◌+◌, ◌-◌, arith, subst, ℕ}
use Rattle.dip_decide.specs.Worklist.{IsFilled}
use Rattle.dip_decide.proofs.Marked.{filled_less}
use Rattle.dip_decide.proofs.worklist.Worklist.pop.Goals as goal

pub invariant_of-self : goal.invariant_of-self
invariant_of-self c =
    let n = c.if-self-eq0.false in
    let w = c.self.invariant.within in
    let t : c.self.inside.many ≡ (c.self.inside.many - 1) + 1 = omega (arith, n) in
    rw c.mark_of.ensures.is (filled_less (c.self.inside.many - 1) c.self.inside.list.items c.self.inside.marks c.index.result.now c.mark_of.ensures.unit (rw c.mark_of.ensures.is at c.mark_of.ensures.low) (omega (arith, n, w)) c.index.ensures
    (subst (λ (x : ℕ). IsFilled x c.self.inside.list.items c.self.inside.marks) t c.self.invariant))
