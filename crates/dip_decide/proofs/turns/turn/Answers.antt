use Rattle.dip_decide_rules.specs.Given.{situation_of, known_of}
use Rattle.dip_decide_rules.specs.Steps.{steps_of}
use Rattle.dip_decide_rules.proofs.Rounds.{if_ok_more, on_ok_more}
use Rattle.dip_decide.proofs.Tested.{started_on, none_left, turn_after, counts_same}
use Rattle.dip_decide.proofs.turns.turn.Goals as goal

pub turn_unforced-requires-clause-started : goal.turn_unforced-requires-clause-started
turn_unforced-requires-clause-started c =
    started_on (situation_of c.args.table.now) (known_of c.args.values.now) (known_of c.work_off.new.values) c.requires.started c.in_ok-work_off.ensures.worked.grows

pub turn_unforced-requires-clause-unforced : goal.turn_unforced-requires-clause-unforced
turn_unforced-requires-clause-unforced c =
    none_left (situation_of c.args.table.now) (known_of c.work_off.new.values) c.work_off.new.tests c.in_ok-work_off.ensures.worked.work

pub returns-clause-turned : goal.returns-clause-turned
returns-clause-turned c =
    if_ok_more _ _ c.turn_unforced.result (λ any t. turn_after (situation_of c.args.table.now) any (steps_of c.args.steps.now.items) (steps_of c.work_off.new.steps.items) (steps_of c.turn_unforced.new.steps.items) (known_of c.args.values.now) (known_of c.work_off.new.values) (known_of c.turn_unforced.new.values) _ _ c.in_ok-work_off.ensures.worked t) c.turn_unforced.ensures.turned

pub returns-clause-work : goal.returns-clause-work
returns-clause-work c = on_ok_more _ _ c.turn_unforced.result (λ w. w c.work_off.new.tests c.in_ok-work_off.ensures.worked.work) c.turn_unforced.ensures.work

pub returns-clause-counted : goal.returns-clause-counted
returns-clause-counted c = on_ok_more _ _ c.turn_unforced.result (λ e. counts_same (steps_of c.args.steps.now.items) (steps_of c.work_off.new.steps.items) (steps_of c.turn_unforced.new.steps.items) c.args.tests.now c.work_off.new.tests e c.in_ok-work_off.ensures.counted) c.turn_unforced.ensures.unforced
