use Rattle.std.proofs.Common.{ℕ, Err, ap, rules, arith, refl, ◌++◌, ◌∷◌, [], ◌∙◌}
use Rattle.dip_desk_state.specs.Rows as rows
use Rattle.dip_desk_keeper.proofs.Ending.{ends_late, ends_open}
use Rattle.dip_desk_keeper.proofs.Keepings.{told_late}
use Rattle.std.proofs.lemmas.Result.{err_from_is_err_and}
use Rattle.dip_judge_runs.specs.RunFaults.{faults_after_run}
use Rattle.dip_judge_runs.proofs.StepLemmas.{count_so, fails_so, goes_on}
use Rattle.dip_judge_runs.proofs.TurnLemmas.{front_more, front_of, stopped_before, stops_in_write, written_more}
use Rattle.dip_judge_runs.proofs.run.answer_all.Goals as goal

pub letters-preserved : goal.letters-preserved
letters-preserved g c =
    let m = c.args.map.now in
    let b = g.K.Keeper.book in
    let next = rw c.in-Some.is at c.in_ok-step.ensures.answered in
    let goes = goes_on m b c.letters.keeper c.step.new.keeper c.in-Some.reply c.in-Some.after.now c.letters.rest.now c.lawful_states_stay_lawful.ensures.stays next in
    let i = c.letters.invariant in
    record {
      count = goes.count ∙ i.count;
      fair = λ honest. i.fair (goes.fair honest);
      same_map = goes.same_map ∙ i.same_map;
      goes = λ it honest. goes.opens (i.goes it (goes.fair honest)) honest;
      told = omega (arith, i.told, goes.told);
      lawful = λ it honest lawful. let before = goes.fair honest in goes.lawful (i.goes it before) honest (i.lawful it before lawful);
      so_far = λ it honest.
          let before = goes.fair honest in
          let so_far = i.so_far it before in
          let reply = rows.reply c.in-Some.reply in (
            so_far.0 ++ reply ∷ [],
            front_more m (c.published_movements_are_decided.ensures m) c.args.input.now _ so_far.0 _ c.letters.rest.now reply _ c.in-Some.after.now so_far.1 (goes.turn (i.goes it before) honest),
            written_more _ _ _ so_far.0 reply so_far.2 c.in_ok-write_reply-in-Some.ensures.ok,
          );
    }

pub letters-init : goal.letters-init
letters-init g c = record {
  count = refl;
  fair = λ honest. honest;
  same_map = refl;
  goes = λ it honest. it;
  told = omega arith;
  lawful = λ it honest lawful. lawful;
  so_far = λ it honest. ([], front_of c.args.map.now (c.published_movements_are_decided.ensures c.args.map.now) c.args.input.now _, search rules);
}

-- a letter or a fault has no answer
pub returns-in_err-step : goal.returns-in_err-step
returns-in_err-step g c =
    let m = c.args.map.now in
    let b = g.K.Keeper.book in
    let i = c.letters.invariant in
    let p = err_from_is_err_and c.from_residual.result c.from_residual.ensures.1 in
    let f = fails_so m b c.letters.rest.now c.letters.keeper c.step.new.keeper c.in_err-step.field-0.0 c.lawful_states_stay_lawful.ensures.sane c.in_err-step.ensures.failed in
    rw (p.1, p.2) record {
      answers = λ it honest. tt;
      never = λ it honest lawful damaged.
          let on = i.goes it (f.fair honest) in
          f.never on honest (i.lawful it (f.fair honest) lawful) (cc);
      failed = λ it honest disk.
          let on = i.goes it (f.fair honest) in
          told_late b c.args.keeper.now c.letters.keeper c.step.new.keeper i.told (f.told on honest (cc));
      ends = λ it honest.
          let on = i.goes it (f.fair honest) in
          let so_far = i.so_far it (f.fair honest) in
          stopped_before m b _ c.args.input.now c.args.keeper.now c.step.new.keeper _ so_far.0 c.letters.rest.now _ _ f.kind so_far.1 so_far.2
          (ends_late m b c.args.keeper.now c.letters.keeper c.step.new.keeper _ _ _ i.told (λ t more. more) (f.ends on honest));
      fault = search rules;
      count = count_so (Unit {0}) m b c.letters.rest.now c.letters.keeper c.step.new.keeper c.in_err-step.field-0.0 c.in_err-step.ensures.failed
          ∙ ap (λ (n : ℕ). faults_after_run {A = Unit {0}} (Err c.in_err-step.field-0.0) n) i.count;
      fair = λ honest. i.fair (f.fair honest);
      same_map = f.same_map ∙ i.same_map;
    }

-- the writing of a reply failed
pub returns-in_err-write_reply-in-Some : goal.returns-in_err-write_reply-in-Some
returns-in_err-write_reply-in-Some g c =
    let m = c.args.map.now in
    let b = g.K.Keeper.book in
    let i = c.letters.invariant in
    let next = rw c.in-Some.is at c.in_ok-step.ensures.answered in
    let goes = goes_on m b c.letters.keeper c.step.new.keeper c.in-Some.reply c.in-Some.after.now c.letters.rest.now c.lawful_states_stay_lawful.ensures.stays next in
    let p = err_from_is_err_and c.from_residual-in_err-write_reply-in-Some.result c.from_residual-in_err-write_reply-in-Some.ensures.1 in
    let part = c.in_err-write_reply-in-Some.ensures.err in
    rw (p.1, p.2, c.in_err-write_reply-in-Some.ensures.fault) record {
      answers = λ it honest. tt;
      ends = λ it honest.
          let on = i.goes it (goes.fair honest) in
          let so_far = i.so_far it (goes.fair honest) in
          record {
            state = b.content m c.step.new.keeper;
            stops = stops_in_write m (c.published_movements_are_decided.ensures m) c.args.input.now _ so_far.0 _ c.letters.rest.now (rows.reply c.in-Some.reply) _ c.in-Some.after.now _ _ _ part.0 so_far.1 (goes.turn on honest) so_far.2 part.1;
            ends = ends_open m b c.args.keeper.now c.step.new.keeper _ (goes.opens on honest);
          };
      never = λ it honest lawful bad. absurd (cc);
      failed = λ it honest bad. absurd (cc);
      fault = tt;
      count = goes.count ∙ i.count;
      fair = λ honest. i.fair (goes.fair honest);
      same_map = goes.same_map ∙ i.same_map;
    }
