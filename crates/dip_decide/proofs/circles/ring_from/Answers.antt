use Rattle.std.proofs.Common.{arith, length, ◌+◌, ◌≡◌, sym, ◌∙◌, ap, false, true}
use Rattle.std.proofs.lemmas.List.{length_push}
use Rattle.dip_decide_rules.specs.Given.{situation_of, known_of}
use Rattle.dip_decide_rules.specs.Movement.{is_listed}
use Rattle.dip_decide_rules.proofs.RingLaws.{trail_on, trail_left, trail_round, trail_short}
use Rattle.dip_decide.proofs.circles.ring_from.Goals as goal

pub walk-smaller : goal.walk-smaller
walk-smaller c =
    let s = situation_of c.args.table.now in
    let k = known_of c.args.values.now in
    let n : is_listed c.walk.trail.items c.walk.here ≡ false = rw c.as_slice.ensures.value at (sym c.is_in.ensures ∙ c.walk-test.true) in
    let short = trail_short s c.requires.situation k c.requires.started c.args.start c.walk.trail.items c.walk.here c.walk.invariant n in
    let more : length c.push.new.self.items ≡ length c.walk.trail.items + 1 = ap length c.in_ok-push.ensures.items ∙ length_push c.walk.trail.items c.walk.here in
    omega arith

pub walk-preserved : goal.walk-preserved
walk-preserved c =
    let s = situation_of c.args.table.now in
    let k = known_of c.args.values.now in
    let n : is_listed c.walk.trail.items c.walk.here ≡ false = rw c.as_slice.ensures.value at (sym c.is_in.ensures ∙ c.walk-test.true) in
    rw c.in_ok-push.ensures.items (trail_on s k c.args.start c.walk.trail.items c.walk.here c.in-Some.next c.walk.invariant n (sym c.waits_for.ensures ∙ c.in-Some.is))

pub returns-in-None : goal.returns-in-None
returns-in-None c =
    let s = situation_of c.args.table.now in
    let k = known_of c.args.values.now in
    trail_left s k c.args.start c.walk.trail.items c.walk.here c.walk.invariant (sym c.waits_for.ensures ∙ c.in-None.is)

pub returns : goal.returns
returns c =
    let s = situation_of c.args.table.now in
    let k = known_of c.args.values.now in
    let m : is_listed c.walk.trail.items c.walk.here ≡ true = rw c.as_slice.ensures.value at (sym c.is_in.ensures ∙ c.walk-test.false) in
    rw (c.in_ok-ring.ensures, c.as_slice-2.ensures.value) (trail_round s k c.args.start c.walk.trail.items c.walk.here c.walk.invariant m)
