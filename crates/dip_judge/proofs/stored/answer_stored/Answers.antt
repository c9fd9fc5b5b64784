use Rattle.std.proofs.Common.{Err, ap, refl, subst, sym}
use Rattle.dip_desk_machine.specs.Lawful.{IsLawful}
use Rattle.dip_judge_runs.specs.declared.run.RunFault.{RunFault}
use Rattle.dip_judge.proofs.LastingLemmas.{answers_last, damage_run, disk_run, run_text, shut_lawful, stops_last}
use Rattle.dip_judge.proofs.StoredLemmas.{answers_from, blamed, is_open, reads_up_to, shut_by, stops_from}
use Rattle.dip_store.proofs.Opened.{leaves_text}
use Rattle.dip_store.specs.Opening.{IsNowOf}
use Rattle.dip_judge_system.specs.declared.failures.Failure.TheVariants.{Run}
use Rattle.dip_judge.proofs.stored.answer_stored.Goals as goal

pub returns-in-Ok-run_file : goal.returns-in-Ok-run_file
returns-in-Ok-run_file g c =
    let m = c.args.map.now in
    let k = c.in-Ok.keeper in
    rw c.into_store.ensures
    (record {
      done = (λ clean s says.
          let opened = c.in-Ok.ensures.opened (c.run_file.ensures.fair clean) s says in
          let run = c.in-Ok-run_file.ensures.answers (is_open g.S.Store m s k opened) clean in
          answers_from g.S.Store m s k c.run_file.new.keeper _ _ _ _ opened run.1 run.0);
      stops = λ clean s desk. tt;
      reads = c.in-Ok-run_file.ensures.ok;
      tells = (λ clean. c.in-Ok.ensures.made (c.run_file.ensures.fair clean));
      lasts = (λ clean s desk law made.
          let opened = c.in-Ok.ensures.opened (c.run_file.ensures.fair clean) s desk.says in
          let run = c.in-Ok-run_file.ensures.answers (is_open g.S.Store m s k opened) clean in
          record {
            never = tt;
            left = answers_last g.S.Store m c.args.text.now c.lawful_states_stay_lawful.ensures.stays s _ law _ _ _ _
                (leaves_text g.S.Store m c.args.text.now k c.run_file.new.keeper c.in-Ok.ensures.of_map c.run_file.ensures.same_map run.0.again)
                (answers_from g.S.Store m s k c.run_file.new.keeper _ _ _ _ opened run.1 run.0);
          });
      fair = λ clean. c.in-Ok.ensures.fair (c.run_file.ensures.fair clean);
    })

pub returns-in-Err-run_file : goal.returns-in-Err-run_file
returns-in-Err-run_file g c =
    let m = c.args.map.now in
    let k = c.in-Ok.keeper in
    rw c.into_store-in-Err-run_file.ensures
    (record {
      done = λ clean s says. tt;
      stops = (λ clean s desk.
          let opened = c.in-Ok.ensures.opened (c.run_file.ensures.fair clean) s desk.says in
          let still = is_open g.S.Store m s k opened in
          let fault = c.in-Err-run_file.fault in
          stops_from g.S.Store m s k c.run_file.new.keeper _ _ _ _ opened (IsNowOf g.S.Store c.args.store) c.args.store c.in-Ok.ensures.counted fault
          (blamed g.S.Store c.args.store k c.run_file.new.keeper (Run fault) c.in-Ok.ensures.counted
          (λ bad. c.in-Err-run_file.ensures.failed still clean (ap (λ (f : RunFault). Err f) (disk_run fault bad))))
          (c.in-Err-run_file.ensures.ends still clean));
      reads = reads_up_to c.in-Err-run_file.fault _ _ _ _ k c.run_file.new.keeper c.in-Err-run_file.ensures.err;
      tells = (λ clean. c.in-Ok.ensures.made (c.run_file.ensures.fair clean));
      lasts = let fault = c.in-Err-run_file.fault in
          (λ clean s desk law made.
          let opened = c.in-Ok.ensures.opened (c.run_file.ensures.fair clean) s desk.says in
          let still = is_open g.S.Store m s k opened in
          record {
            never = λ bad. c.in-Err-run_file.ensures.never still clean (subst (IsLawful m) (sym opened.says) law) (ap (λ (f : RunFault). Err f) (damage_run fault bad));
            left = stops_last g.S.Store m c.args.text.now c.lawful_states_stay_lawful.ensures.stays s _ law _ (IsNowOf g.S.Store c.args.store) _ _ _ _ fault
                (run_text g.S.Store m c.args.text.now c.args.store k c.run_file.new.keeper (leaves_text g.S.Store m c.args.text.now k c.run_file.new.keeper c.in-Ok.ensures.of_map c.run_file.ensures.same_map) fault _ _ _ _
                opened.again (c.in-Err-run_file.ensures.ends still clean))
                (stops_from g.S.Store m s k c.run_file.new.keeper _ _ _ _ opened (IsNowOf g.S.Store c.args.store) c.args.store c.in-Ok.ensures.counted fault
                (blamed g.S.Store c.args.store k c.run_file.new.keeper (Run fault) c.in-Ok.ensures.counted
                (λ bad. c.in-Err-run_file.ensures.failed still clean (ap (λ (f : RunFault). Err f) (disk_run fault bad))))
                (c.in-Err-run_file.ensures.ends still clean));
          });
      fair = λ clean. c.in-Ok.ensures.fair (c.run_file.ensures.fair clean);
    })

pub returns-in-Err : goal.returns-in-Err
returns-in-Err g c =
    record {
      done = λ honest s says. tt;
      stops = λ honest s desk. ((refl, refl), c.in-Err.ensures.ends honest s desk);
      reads = (refl, refl);
      tells = shut_by g.S.Store c.args.map.now c.args.text.now c.args.store _ _ c.in-Err.ensures;
      lasts = λ honest s desk law made. record {
        never = λ bad. bad;
        left = shut_lawful g.S.Store c.args.map.now c.args.text.now _ s c.args.store _ law desk.says made (c.in-Err.ensures.ends honest s desk);
      };
      fair = c.in-Err.ensures.fair;
    }
