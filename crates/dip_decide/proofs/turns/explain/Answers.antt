use Rattle.std.proofs.Common.{arith}
use Rattle.dip_decide_rules.specs.Given.{situation_of, known_of}
use Rattle.dip_decide_rules.specs.Movement.{at_first, rule, mentions}
use Rattle.dip_decide_rules.specs.Steps.{steps_of}
use Rattle.dip_decide_rules.proofs.Continuing.{nothing_yet, started}
use Rattle.dip_decide_rules.proofs.Rounds.{turn_smaller, turn_reached}
use Rattle.dip_decide.proofs.Tested.{work_first, counts_first, few_tests}
use Rattle.dip_decide.proofs.turns.explain.Goals as goal

pub turns-init : goal.turns-init
turns-init c =
    let s = situation_of c.args.table.now in (
      rw (c.in_ok-steps.ensures.items, c.requires.first) (nothing_yet (rule s) (mentions s) (at_first s)),
      (
        rw (c.requires.first, c.requires.untested) (work_first s c.requires.situation _ (rw c.requires.first at c.in_ok-work.ensures)),
        rw (c.in_ok-steps.ensures.items, c.requires.untested) counts_first,
      ),
    )

pub turn-requires-clause-started : goal.turn-requires-clause-started
turn-requires-clause-started c = started (situation_of c.args.table.now) (steps_of c.turns.steps.items) (known_of c.turns.values) (rw c.turns-test.true at c.turns.invariant.0)

pub turn-requires-clause-work : goal.turn-requires-clause-work
turn-requires-clause-work c = c.turns.invariant.1.0

pub turns-smaller : goal.turns-smaller
turns-smaller c = rw c.turns-test.true (turn_smaller (situation_of c.args.table.now) c.in_ok-goes_on.goes_on _ _ (known_of c.turns.values) (known_of c.turn.new.values) c.in_ok-goes_on.ensures.turned)

pub turns-preserved : goal.turns-preserved
turns-preserved c =
    let n = c.turns.invariant.1.1 in
    let m = c.in_ok-goes_on.ensures.counted in (
      turn_reached (situation_of c.args.table.now) c.in_ok-goes_on.goes_on (steps_of c.turns.steps.items) (steps_of c.turn.new.steps.items) (known_of c.turns.values) (known_of c.turn.new.values) c.in_ok-goes_on.ensures.turned (rw c.turns-test.true at c.turns.invariant.0),
      (c.in_ok-goes_on.ensures.work, omega (arith, n, m)),
    )

pub returns-clause-explained : goal.returns-clause-explained
returns-clause-explained c = rw c.turns-test.false at c.turns.invariant.0

pub returns-clause-counted : goal.returns-clause-counted
returns-clause-counted c = c.turns.invariant.1.1

pub returns-clause-tested : goal.returns-clause-tested
returns-clause-tested c = few_tests (situation_of c.args.table.now) (known_of c.turns.values) c.turns.work c.turns.tests c.turns.invariant.1.0
