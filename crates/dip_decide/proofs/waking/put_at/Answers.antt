use Rattle.std.proofs.Common.{[], ◌∷◌}
use Rattle.dip_decide_rules.specs.declared.decisions.Decision.TheVariants.{Support}
use Rattle.dip_decide_rules.specs.Given.{situation_of, known_of}
use Rattle.dip_decide_rules.specs.Placed.{entry, carried_of}
use Rattle.dip_decide.specs.Waking.{path_of}
use Rattle.dip_decide.proofs.Taken.{taken_on}
use Rattle.dip_decide.proofs.waking.put_at.Goals as goal

pub returns-in_ok-put_path-in-Some : goal.returns-in_ok-put_path-in-Some
returns-in_ok-put_path-in-Some c =
    let t = c.args.table.now in
    rw c.in-Some.is (taken_on (situation_of t) (known_of c.args.values.now) c.args.e.now (Support c.in-Some.h ∷ []) (path_of (carried_of (entry t.rows.items c.in-Some.h))) _ _ _ c.in_ok-put_one-in-Some.ensures (rw c.carries.ensures at c.in_ok-put_path-in-Some.ensures))
