use Rattle.dip_decide_rules.specs.Given.{situation_of, known_of}
use Rattle.dip_decide_rules.specs.Matching.{target_of}
use Rattle.dip_decide_rules.specs.Placed.{entry}
use Rattle.dip_decide.specs.Waking.{moves_into, moves_to}
use Rattle.dip_decide.proofs.Taken.{taken_on}
use Rattle.dip_decide.proofs.waking.put_past_support.Goals as goal

pub returns-in_ok-put_to-in-Some : goal.returns-in_ok-put_to-in-Some
returns-in_ok-put_to-in-Some c =
    let t = c.args.table.now in
    rw c.in-Some.is (taken_on (situation_of t) (known_of c.args.values.now) c.args.e.now (moves_into t c.in-Some.w) (moves_to t (target_of (entry t.rows.items c.in-Some.w))) _ _ _ c.in_ok-put_into-in-Some.ensures (rw c.target.ensures at c.in_ok-put_to-in-Some.ensures))
