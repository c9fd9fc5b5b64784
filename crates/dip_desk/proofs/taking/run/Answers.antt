use Rattle.std.proofs.Common.{◌≡◌, ℕ, refl, [], ◌∷◌, ◌++◌, map, take, get_or, Err, Ok, arith, sym, ap, subst, ◌∙◌}
use Rattle.std.proofs.lemmas.List.{take_all, take-map}
use Rattle.dip_desk_state.specs.Faults.{faults_with}
use Rattle.dip_desk_machine.specs.Lawful.{IsLawful}
use Rattle.dip_desk_machine.specs.Machine.{Step}
use Rattle.dip_desk_machine.specs.Mail.{IsMail, mail}
use Rattle.dip_desk_keeper.specs.Keeping.{IsOpen}
use Rattle.dip_desk.specs.Running.{Answers}
use Rattle.dip_desk_state.specs.State.{State}
use Rattle.dip_desk_state.specs.declared.faults.KeepFault.{KeepFault}
use Rattle.dip_desk_state.specs.Rows as rows
use Rattle.dip_desk_keeper.proofs.Keepings.{keeps_as, keeps_then, told_late}
use Rattle.dip_desk_keeper.proofs.Ending.{ends_late, ends_open, said_at, steps_end, steps_on}
use Rattle.dip_desk_machine.proofs.Histories.{history_more, map_more, said_each, taken_more}
use Rattle.dip_desk_machine.proofs.Publishing.{fair}
use Rattle.dip_desk.proofs.taking.run.Goals as goal

pub take-requires : goal.take-requires
take-requires g c = said_each IsMail (λ l. mail l) c.args.letters.now c.loop-letter.letter-index _ (omega arith) c.requires

pub loop-letter-preserved : goal.loop-letter-preserved
loop-letter-preserved g c =
    let b = g.K.Keeper.book in
    let m = c.args.map.now in
    let i = c.loop-letter.invariant in
    let took = c.in-Ok-take.ensures in
    let replies : map (λ r. rows.reply r) c.push_reserved.new.self.items ≡ map (λ r. rows.reply r) c.loop-letter.replies.items ++ rows.reply c.in-Ok-take.reply ∷ [] =
    ap (λ rs. map (λ r. rows.reply r) rs) c.push_reserved.ensures.items ∙ map_more (λ r. rows.reply r) c.loop-letter.replies.items c.in-Ok-take.reply in
    let step : IsOpen m b c.loop-letter.keeper → b.honest c.take.new.keeper → IsOpen m b c.take.new.keeper × Step m (b.content m c.loop-letter.keeper) _ (rows.reply c.in-Ok-take.reply) (b.content m c.take.new.keeper) =
    steps_on m b c.loop-letter.keeper c.take.new.keeper (λ r. rows.reply r) _ _ (Ok c.in-Ok-take.reply) took in
    record {
      keeps = keeps_then m b _ _ _ tt _ i.keeps (keeps_as m b _ _ c.in-Ok-take.reply tt took.keeps);
      steps = λ it honest.
          let before = took.keeps.fair honest in
          let more = history_more m (b.content m c.args.keeper.now) (b.content m c.loop-letter.keeper) (b.content m c.take.new.keeper) _ _ _ (rows.reply c.in-Ok-take.reply) (i.steps it before) (step (i.goes it before) honest).1 in
          (more.0, record { run = more.1.run; asked = more.1.asked ∙ sym (taken_more (λ x. mail x) c.args.letters.now c.loop-letter.letter-index _ (omega arith)); answered = more.1.answered ∙ sym replies });
      goes = λ it honest. (step (i.goes it (took.keeps.fair honest)) honest).0;
      lawful = λ it honest lawful.
          let before = took.keeps.fair honest in
          c.lawful_states_stay_lawful.ensures.stays _ (mail (get_or c.args.letters.now c.loop-letter.letter-index _)) _ _
          (said_each IsMail (λ l. mail l) c.args.letters.now c.loop-letter.letter-index _ (omega arith) c.requires) (i.lawful it before lawful) (step (i.goes it before) honest).1;
      count = omega arith;
      room = omega arith;
    }

pub returns-in-Err : goal.returns-in-Err
returns-in-Err g c =
    let b = g.K.Keeper.book in
    let m = c.args.map.now in
    let none : map (λ r. rows.reply r) c.new.result.items ≡ [] = ap (λ rs. map (λ r. rows.reply r) rs) c.new.ensures.items in
    record {
      done = λ it honest. tt;
      ends = λ it honest. (0, b.content m c.args.keeper.now, ([], record { run = refl; asked = refl; answered = sym none }, fair m (c.published_movements_are_decided.ensures m) (b.content m c.args.keeper.now) (b.content m c.args.keeper.now) [] refl), ends_open m b c.args.keeper.now c.args.keeper.now _ it);
      damaged = λ it honest bad. absurd (cc);
      never = λ it honest lawful bad. absurd (cc);
      failed = λ it honest bad. absurd (cc);
      lawful = λ it honest shows lawful. lawful;
      count = refl;
    }

pub returns-in-Err-take : goal.returns-in-Err-take
returns-in-Err-take g c =
    let b = g.K.Keeper.book in
    let m = c.args.map.now in
    let i = c.loop-letter.invariant in
    let kept = i.keeps in
    let n = mail (get_or c.args.letters.now c.loop-letter.letter-index _) in
    let took = c.in-Err-take.ensures in
    let answers : IsOpen m b c.args.keeper.now → b.honest c.loop-letter.keeper
    → Answers m (b.content m c.args.keeper.now) (take c.loop-letter.letter-index (map (λ l. mail l) c.args.letters.now)) (map (λ r. rows.reply r) c.loop-letter.replies.items) (b.content m c.loop-letter.keeper) =
    λ it honest.
    let steps = i.steps it honest in (
      steps.0,
      record { run = steps.1.run; asked = steps.1.asked ∙ sym (take-map (λ l. mail l) c.loop-letter.letter-index c.args.letters.now); answered = steps.1.answered },
      fair m (c.published_movements_are_decided.ensures m) (b.content m c.args.keeper.now) (b.content m c.loop-letter.keeper) steps.0 steps.1.run,
    ) in
    record {
      done = λ it honest. tt;
      ends = λ it honest.
          let on = i.goes it (took.keeps.fair honest) in (
            c.loop-letter.letter-index,
            b.content m c.loop-letter.keeper,
            answers it (took.keeps.fair honest),
            ends_late m b c.args.keeper.now c.loop-letter.keeper c.take.new.keeper (b.content m c.loop-letter.keeper) _ _ kept.told
                (λ t more. (n, said_at (λ l. mail l) c.args.letters.now c.loop-letter.letter-index _ (omega arith), more.0, more.1))
                (steps_end m b c.loop-letter.keeper c.take.new.keeper (λ r. rows.reply r) _ _ (Err c.in-Err-take.fault) took on honest),
          );
      damaged = λ it honest bad.
          let on = i.goes it (took.keeps.fair honest) in (
            c.loop-letter.letter-index,
            b.content m c.loop-letter.keeper,
            answers it (took.keeps.fair honest),
            n,
            said_at (λ l. mail l) c.args.letters.now c.loop-letter.letter-index _ (omega arith),
            took.damaged on.sound honest on.shows (ap (λ (e : KeepFault). Err e) bad),
          );
      never = λ it honest lawful bad.
          let before = took.keeps.fair honest in
          let on = i.goes it before in
          c.lawful_states_stay_lawful.ensures.sane _ n _ (said_each IsMail (λ l. mail l) c.args.letters.now c.loop-letter.letter-index _ (omega arith) c.requires) (i.lawful it before lawful) (took.damaged on.sound honest on.shows (ap (λ (e : KeepFault). Err e) bad));
      failed = λ it honest bad.
          let on = i.goes it (took.keeps.fair honest) in
          told_late b c.args.keeper.now c.loop-letter.keeper c.take.new.keeper kept.told (took.failed on.sound honest on.shows (ap (λ (e : KeepFault). Err e) bad));
      lawful = λ it honest shows lawful.
          let before = took.keeps.fair honest in
          subst (IsLawful m) (sym (took.undone (i.goes it before).sound shows)) (i.lawful it before lawful);
      count = took.keeps.count ∙ ap (faults_with c.in-Err-take.fault) kept.count;
    }

pub returns : goal.returns
returns g c =
    let b = g.K.Keeper.book in
    let m = c.args.map.now in
    let i = c.loop-letter.invariant in
    let whole : take c.loop-letter.letter-index c.args.letters.now ≡ c.args.letters.now = take_all _ _ (omega arith) in
    record {
      done = λ it honest.
          let steps = i.steps it honest in
          (i.goes it honest, (steps.0, record { run = steps.1.run; asked = steps.1.asked ∙ ap (λ ls. map (λ l. mail l) ls) whole; answered = steps.1.answered }, fair m (c.published_movements_are_decided.ensures m) (b.content m c.args.keeper.now) (b.content m c.loop-letter.keeper) steps.0 steps.1.run));
      ends = λ it honest. tt;
      damaged = λ it honest. tt;
      never = λ it honest lawful. tt;
      failed = λ it honest. tt;
      lawful = λ it honest shows lawful. i.lawful it honest lawful;
      count = i.keeps.count;
    }
