use Rattle.std.proofs.Common.{sym, ◌∙◌, [], ◌∷◌}
use Rattle.std.proofs.lemmas.List.{map_push}
use Rattle.dip_decide_rules.specs.Given.{situation_of, known_of}
use Rattle.dip_decide_rules.specs.Steps.{steps_of, IsStarted}
use Rattle.dip_decide_rules.specs.Deciding.{give, IsForced}
use Rattle.dip_decide_rules.specs.Movement.{rule}
use Rattle.dip_decide_rules.proofs.OneAnswer.{open_one}
use Rattle.dip_decide_rules.proofs.Continuing.{give_grows}
use Rattle.dip_decide.proofs.Tested.{worked_known, worked_unforced, worked_forced, less_forced, started_on}
use Rattle.dip_decide.proofs.working.work_on.Goals as goal

pub returns-then-is_some-clause-worked : goal.returns-then-is_some-clause-worked
returns-then-is_some-clause-worked c = worked_known (situation_of c.args.table.now) (known_of c.args.values.now) c.args.work.now c.args.d.now c.args.tests.now _ (rw (← c.look.ensures) (sym c.is_some.ensures ∙ c.if-is_some.true)) c.requires.work

pub put-requires-clause-started : goal.put-requires-clause-started
put-requires-clause-started c =
    let s = situation_of c.args.table.now in
    let k = known_of c.args.values.now in
    let f : IsForced (rule s) k c.args.d.now c.in-Some.value = rw c.in-Some.is at c.in_ok-forced_value.ensures.answer in
    let z : IsStarted s (give k (c.args.d.now ∷ []) c.in-Some.value) = started_on s k _ c.requires.started (give_grows k (c.args.d.now ∷ []) c.in-Some.value (open_one k c.args.d.now f.is_open)) in
    rw c.give.ensures z

pub returns-in-None-clause-worked : goal.returns-in-None-clause-worked
returns-in-None-clause-worked c = rw c.in_ok-forced_value.ensures.counted (worked_unforced (situation_of c.args.table.now) (known_of c.args.values.now) c.args.work.now c.args.d.now c.args.tests.now _ (rw c.in-None.is at c.in_ok-forced_value.ensures.answer) c.requires.work)

pub returns-in_ok-put-in-Some-clause-worked : goal.returns-in_ok-put-in-Some-clause-worked
returns-in_ok-put-in-Some-clause-worked c =
    let s = situation_of c.args.table.now in
    let k = known_of c.args.values.now in
    rw (c.give.ensures, c.in_ok-push-in-Some.ensures.items, c.in_ok-forced_value.ensures.counted, map_push) (worked_forced s c.requires.situation k c.requires.started c.args.work.now c.put.new.work c.args.d.now c.in-Some.value (rw c.in-Some.is at c.in_ok-forced_value.ensures.answer) (rw c.give.ensures at c.in_ok-put-in-Some.ensures) c.args.tests.now (steps_of c.args.steps.now.items) c.requires.work)

pub returns-in_ok-put-in-Some-clause-less : goal.returns-in_ok-put-in-Some-clause-less
returns-in_ok-put-in-Some-clause-less c =
    let s = situation_of c.args.table.now in
    let k = known_of c.args.values.now in
    rw c.give.ensures (less_forced s c.requires.situation k c.requires.started c.args.work.now c.put.new.work c.args.d.now c.in-Some.value (rw c.in-Some.is at c.in_ok-forced_value.ensures.answer) (rw c.give.ensures at c.in_ok-put-in-Some.ensures))
