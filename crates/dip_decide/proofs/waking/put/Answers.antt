use Rattle.dip_decide_rules.specs.Given.{situation_of, known_of}
use Rattle.dip_decide_rules.specs.Matching.{target_of}
use Rattle.dip_decide_rules.specs.Placed.{backed_of, entry}
use Rattle.dip_decide.specs.Waking.{moves_into, at_target, past_path, past_support}
use Rattle.dip_decide.proofs.Taken.{taken_on, taken_put}
use Rattle.dip_decide.proofs.Woken.{all_woken}
use Rattle.dip_decide.proofs.waking.put.Goals as goal

pub returns-in_ok-put_at-in-Move : goal.returns-in_ok-put_at-in-Move
returns-in_ok-put_at-in-Move c =
    let t = c.args.table.now in
    let s = situation_of t in
    let k = known_of c.args.values.now in
    let e = c.args.e.now in
    let into = moves_into t c.in-Move.x in
    let there = at_target t (target_of (entry t.rows.items c.in-Move.x)) in
    taken_put s k e _ _ _ (λ d m. rw c.in-Move.is at (all_woken t c.requires.situation d e m)) (taken_on s k e into there _ _ _ c.in_ok-put_into-in-Move.ensures (rw c.target.ensures at c.in_ok-put_at-in-Move.ensures))

pub returns-in_ok-put_past-in-Path : goal.returns-in_ok-put_past-in-Path
returns-in_ok-put_past-in-Path c =
    let t = c.args.table.now in
    let e = c.args.e.now in
    taken_put (situation_of t) (known_of c.args.values.now) e (past_path t (target_of (entry t.rows.items c.in-Path.w))) _ _ (λ d m. rw c.in-Path.is at (all_woken t c.requires.situation d e m)) (rw c.target-in-Path.ensures at c.in_ok-put_past-in-Path.ensures)

pub returns-in_ok-put_past_support-in-Support : goal.returns-in_ok-put_past_support-in-Support
returns-in_ok-put_past_support-in-Support c =
    let t = c.args.table.now in
    let e = c.args.e.now in
    taken_put (situation_of t) (known_of c.args.values.now) e (past_support t (backed_of (entry t.rows.items) (entry t.rows.items c.in-Support.h))) _ _ (λ d m. rw c.in-Support.is at (all_woken t c.requires.situation d e m)) (rw c.backed.ensures at c.in_ok-put_past_support-in-Support.ensures)
