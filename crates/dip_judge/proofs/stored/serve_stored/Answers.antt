use Rattle.std.proofs.Common.{Err, ap, inl, refl, subst, sym}
use Rattle.dip_desk_machine.specs.Lawful.{IsLawful}
use Rattle.dip_judge.proofs.LastingLemmas.{both_last, clients_text, disk_serving, holds_lawful, served_last, serving_last, shut_lawful, some_text, undamaged}
use Rattle.dip_judge.proofs.StoredLemmas.{blamed, ends_still, holds, is_open, serves_from, serves_up_to, shut_by}
use Rattle.dip_store.proofs.Opened.{leaves_text}
use Rattle.dip_desk_state.specs.declared.faults.KeepFault.{KeepFault}
use Rattle.dip_judge_system.specs.declared.failures.Failure.TheVariants.{Serving}
use Rattle.dip_judge.proofs.stored.serve_stored.Goals as goal

pub returns-in-Ok-serve_all : goal.returns-in-Ok-serve_all
returns-in-Ok-serve_all g c =
    let m = c.args.map.now in
    let k = c.in-Ok.keeper in
    rw c.into_store-in-Ok-serve_all.ensures
    (record {
      done = (λ clean s says.
          let opened = c.in-Ok.ensures.opened (c.serve_all.ensures.fair clean) s says in
          serves_from g.S.Store m c.args.store c.args.count s k c.serve_all.new.keeper opened c.in-Ok.ensures.counted
          (c.in-Ok-serve_all.ensures.goes (is_open g.S.Store m s k opened) clean));
      stops = λ clean s desk. tt;
      failed = tt;
      tells = (λ clean. c.in-Ok.ensures.made (c.serve_all.ensures.fair clean));
      lasts = (λ clean s desk law made.
          let opened = c.in-Ok.ensures.opened (c.serve_all.ensures.fair clean) s desk.says in
          both_last g.S.Store m c.args.text.now _ _ _ (inl tt)
          (served_last g.S.Store m c.args.text.now c.lawful_states_stay_lawful.ensures.stays s _ law _ c.args.count
          (clients_text g.S.Store m c.args.text.now c.args.store k c.serve_all.new.keeper
          (leaves_text g.S.Store m c.args.text.now k c.serve_all.new.keeper c.in-Ok.ensures.of_map c.serve_all.ensures.same_map)
          c.args.count c.in-Ok.ensures.counted (c.in-Ok-serve_all.ensures.goes (is_open g.S.Store m s k opened) clean))
          (serves_from g.S.Store m c.args.store c.args.count s k c.serve_all.new.keeper opened c.in-Ok.ensures.counted
          (c.in-Ok-serve_all.ensures.goes (is_open g.S.Store m s k opened) clean))));
      fair = λ clean. c.in-Ok.ensures.fair (c.serve_all.ensures.fair clean);
    })

pub returns : goal.returns
returns g c =
    let m = c.args.map.now in
    let k = c.in-Ok.keeper in
    rw c.into_store-in-Err-serve_all.ensures
    (record {
      done = λ clean s says. tt;
      stops = (λ clean s desk.
          let opened = c.in-Ok.ensures.opened (c.serve_all.ensures.fair clean) s desk.says in
          let still = is_open g.S.Store m s k opened in
          let fault = c.in-Err-serve_all.fault in (
            blamed g.S.Store c.args.store k c.serve_all.new.keeper (Serving fault) c.in-Ok.ensures.counted
                (λ bad. c.in-Err-serve_all.ensures.failed still clean (ap (λ (f : KeepFault). Err f) (disk_serving fault bad))),
            serves_up_to g.S.Store m c.args.store c.args.count s k c.serve_all.new.keeper opened c.in-Ok.ensures.counted
                (c.serve_all.ensures.ends still clean),
          ));
      failed = c.in-Err-serve_all.ensures.shut;
      tells = (λ clean. c.in-Ok.ensures.made (c.serve_all.ensures.fair clean));
      lasts = (λ clean s desk law made.
          let opened = c.in-Ok.ensures.opened (c.serve_all.ensures.fair clean) s desk.says in
          let still = is_open g.S.Store m s k opened in
          both_last g.S.Store m c.args.text.now _ _ _
          (undamaged g.S.Store m c.args.text.now c.args.store c.args.count k c.serve_all.new.keeper _ c.in-Ok.ensures.counted c.in-Err-serve_all.ensures still clean
          (subst (IsLawful m) (sym opened.says) law))
          (serving_last g.S.Store m c.args.text.now c.lawful_states_stay_lawful.ensures.stays s _ law _ c.args.count
          (some_text g.S.Store m c.args.text.now c.args.store k c.serve_all.new.keeper
          (leaves_text g.S.Store m c.args.text.now k c.serve_all.new.keeper c.in-Ok.ensures.of_map c.serve_all.ensures.same_map)
          c.args.count c.in-Ok.ensures.counted (c.serve_all.ensures.ends still clean))
          (serves_up_to g.S.Store m c.args.store c.args.count s k c.serve_all.new.keeper opened c.in-Ok.ensures.counted
          (c.serve_all.ensures.ends still clean))));
      fair = λ clean. c.in-Ok.ensures.fair (c.serve_all.ensures.fair clean);
    })

pub returns-in-Err-listen_on : goal.returns-in-Err-listen_on
returns-in-Err-listen_on g c =
    let m = c.args.map.now in
    let k = c.in-Ok.keeper in
    rw c.into_store-in-Err-listen_on.ensures
    (record {
      done = λ clean s says. tt;
      stops = (λ clean s desk. ends_still g.S.Store m _ _ k.conn _ (holds g.S.Store m s k (c.in-Ok.ensures.opened clean s desk.says)));
      failed = tt;
      tells = c.in-Ok.ensures.made;
      lasts = (λ clean s desk law made. inl (record {
        never = λ bad. bad;
        left =
            let opened = c.in-Ok.ensures.opened clean s desk.says in
            holds_lawful g.S.Store m c.args.text.now s _ law (leaves_text g.S.Store m c.args.text.now k k c.in-Ok.ensures.of_map refl opened.again) (holds g.S.Store m s k opened);
      }));
      fair = c.in-Ok.ensures.fair;
    })

pub returns-in_default : goal.returns-in_default
returns-in_default g c =
    let m = c.args.map.now in
    let k = c.in-Ok.keeper in
    rw c.into_store.ensures
    (record {
      done = λ clean s says. tt;
      stops = (λ clean s desk. ends_still g.S.Store m _ _ k.conn _ (holds g.S.Store m s k (c.in-Ok.ensures.opened clean s desk.says)));
      failed = tt;
      tells = c.in-Ok.ensures.made;
      lasts = (λ clean s desk law made. inl (record {
        never = λ bad. bad;
        left =
            let opened = c.in-Ok.ensures.opened clean s desk.says in
            holds_lawful g.S.Store m c.args.text.now s _ law (leaves_text g.S.Store m c.args.text.now k k c.in-Ok.ensures.of_map refl opened.again) (holds g.S.Store m s k opened);
      }));
      fair = c.in-Ok.ensures.fair;
    })

pub returns-in-Err : goal.returns-in-Err
returns-in-Err g c =
    record {
      done = λ honest s says. tt;
      stops = λ honest s desk. c.in-Err.ensures.ends honest s desk;
      failed = tt;
      tells = shut_by g.S.Store c.args.map.now c.args.text.now c.args.store _ _ c.in-Err.ensures;
      lasts = λ honest s desk law made. inl (record {
        never = λ bad. bad;
        left = shut_lawful g.S.Store c.args.map.now c.args.text.now _ s c.args.store _ law desk.says made (c.in-Err.ensures.ends honest s desk);
      });
      fair = c.in-Err.ensures.fair;
    }
