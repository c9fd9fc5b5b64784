use Rattle.std.proofs.Common.{refl}
use Rattle.std.proofs.lemmas.List.{map_push}
use Rattle.dip_decide_rules.specs.Given.{situation_of, known_of}
use Rattle.dip_decide_rules.specs.Movement.{rule}
use Rattle.dip_decide_rules.specs.Steps.{steps_of, moves_of}
use Rattle.dip_decide.proofs.Tested.{circle_started, circle_works, none_more}
use Rattle.dip_decide_rules.proofs.Rounds.{circle_taken, circle_single, circle_open}
use Rattle.dip_decide.proofs.turns.take_circle.Goals as goal

pub give_moves-requires-clause-distinct : goal.give_moves-requires-clause-distinct
give_moves-requires-clause-distinct c = rw c.as_slice.ensures.value (circle_single (rule (situation_of c.args.table.now)) (known_of c.args.values.now) c.args.units.items c.requires.circle)

pub give_moves-requires-clause-unknown : goal.give_moves-requires-clause-unknown
give_moves-requires-clause-unknown c = rw c.as_slice.ensures.value (circle_open (rule (situation_of c.args.table.now)) (known_of c.args.values.now) c.args.units.items c.requires.circle)

pub put_moves-requires-clause-started : goal.put_moves-requires-clause-started
put_moves-requires-clause-started c = rw (c.give_moves.ensures, c.as_slice.ensures.value) (circle_started (situation_of c.args.table.now) (known_of c.args.values.now) c.requires.started (moves_of c.args.units.items) c.requires.circle)

pub returns-clause-turned : goal.returns-clause-turned
returns-clause-turned c =
    rw (c.give_moves.ensures, c.as_slice.ensures.value, c.in_ok-push.ensures.items, map_push)
    (circle_taken (situation_of c.args.table.now) (steps_of c.args.steps.now.items) (known_of c.args.values.now) c.args.units.items c.requires.situation c.requires.started c.requires.some c.requires.circle)

pub returns-clause-work : goal.returns-clause-work
returns-clause-work c =
    let s = situation_of c.args.table.now in
    rw (c.give_moves.ensures, c.as_slice.ensures.value)
    (circle_works s c.requires.situation (known_of c.args.values.now) c.requires.started c.args.units.items c.put_moves.new.work c.requires.circle (rw (c.give_moves.ensures, c.as_slice.ensures.value, c.as_slice-2.ensures.value, c.requires.empty) at c.in_ok-put_moves.ensures))

pub returns-clause-unforced : goal.returns-clause-unforced
returns-clause-unforced c = rw (c.in_ok-push.ensures.items, map_push) (none_more (steps_of c.args.steps.now.items) _ refl)
