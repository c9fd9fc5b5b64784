use Rattle.std.proofs.Common.{refl}
use Rattle.std.proofs.lemmas.List.{map_push}
use Rattle.dip_decide_rules.specs.Given.{situation_of, known_of}
use Rattle.dip_decide_rules.specs.Movement.{rule, mentions}
use Rattle.dip_decide_rules.specs.Steps.{steps_of, paths_of}
use Rattle.dip_decide.proofs.Tested.{knot_started, knot_works, none_more}
use Rattle.dip_decide_rules.proofs.Rounds.{knot_taken, knot_single, knot_opened}
use Rattle.dip_decide.proofs.turns.take_knot.Goals as goal

pub break_paths-requires-clause-distinct : goal.break_paths-requires-clause-distinct
break_paths-requires-clause-distinct c = let s = situation_of c.args.table.now in rw c.as_slice.ensures.value (knot_single (rule s) (mentions s) (known_of c.args.values.now) c.args.units.items c.requires.knot)

pub break_paths-requires-clause-unknown : goal.break_paths-requires-clause-unknown
break_paths-requires-clause-unknown c = let s = situation_of c.args.table.now in rw c.as_slice.ensures.value (knot_opened (rule s) (mentions s) (known_of c.args.values.now) c.args.units.items c.requires.knot)

pub put_paths-requires-clause-started : goal.put_paths-requires-clause-started
put_paths-requires-clause-started c = rw (c.break_paths.ensures, c.as_slice.ensures.value) (knot_started (situation_of c.args.table.now) (known_of c.args.values.now) c.requires.started (paths_of c.args.units.items) c.requires.knot)

pub returns-clause-turned : goal.returns-clause-turned
returns-clause-turned c =
    rw (c.break_paths.ensures, c.as_slice.ensures.value, c.in_ok-push.ensures.items, map_push)
    (knot_taken (situation_of c.args.table.now) (steps_of c.args.steps.now.items) (known_of c.args.values.now) c.args.units.items c.requires.situation c.requires.started c.requires.some c.requires.knot)

pub returns-clause-work : goal.returns-clause-work
returns-clause-work c =
    let s = situation_of c.args.table.now in
    rw (c.break_paths.ensures, c.as_slice.ensures.value)
    (knot_works s c.requires.situation (known_of c.args.values.now) c.requires.started c.args.units.items c.put_paths.new.work c.requires.knot (rw (c.break_paths.ensures, c.as_slice.ensures.value, c.as_slice-2.ensures.value, c.requires.empty) at c.in_ok-put_paths.ensures))

pub returns-clause-unforced : goal.returns-clause-unforced
returns-clause-unforced c = rw (c.in_ok-push.ensures.items, map_push) (none_more (steps_of c.args.steps.now.items) _ refl)
