use Rattle.dip_decide_rules.specs.Given.{situation_of, known_of}
use Rattle.dip_decide_rules.proofs.RingLaws.{leaving_more}
use Rattle.dip_decide.proofs.circles.ring_in.Goals as goal

pub loop-place-preserved : goal.loop-place-preserved
loop-place-preserved c =
    let s = situation_of c.args.table.now in
    let k = known_of c.args.values.now in
    leaving_more s k c.args.table.now.places.items c.loop-place.place-index c.place-item.result (rw c.deref-place-items.ensures.value at c.loop-place-test.true) (rw c.deref-place-items.ensures.value at c.place-item.is) c.loop-place.invariant (rw c.in_default.is at c.in_ok-ring.ensures)
