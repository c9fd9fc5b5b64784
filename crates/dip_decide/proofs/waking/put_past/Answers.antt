use Rattle.std.proofs.Common.{[], ◌∷◌}
use Rattle.dip_decide_rules.specs.declared.decisions.Decision.TheVariants.{Support}
use Rattle.dip_decide_rules.specs.Given.{situation_of, known_of}
use Rattle.dip_decide.specs.Waking.{moves_into}
use Rattle.dip_decide.proofs.Taken.{taken_on}
use Rattle.dip_decide.proofs.waking.put_past.Goals as goal

pub returns-in_ok-put_one-in-Some : goal.returns-in_ok-put_one-in-Some
returns-in_ok-put_one-in-Some c =
    let t = c.args.table.now in
    rw c.in-Some.is (taken_on (situation_of t) (known_of c.args.values.now) c.args.e.now (moves_into t c.in-Some.q) (Support c.in-Some.q ∷ []) _ _ _ c.in_ok-put_into-in-Some.ensures c.in_ok-put_one-in-Some.ensures)
