use Rattle.std.proofs.Common.{Err, ap, refl, subst, sym}
use Rattle.dip_desk_machine.specs.Lawful.{IsLawful}
use Rattle.dip_desk_keeper.specs.declared.paper_faults.PaperFault.{PaperFault}
use Rattle.dip_judge.proofs.LastingLemmas.{damage_papers, disk_papers, ends_lawful, few_papers, holds_lawful, shut_lawful}
use Rattle.dip_judge.proofs.StoredLemmas.{blamed, breaks_off, ends_still, holds_still, is_open, reports, reports_none, shut_by}
use Rattle.dip_store.proofs.Opened.{leaves_text}
use Rattle.dip_store.specs.Opening.{IsNowOf}
use Rattle.dip_judge_system.specs.declared.failures.Failure.TheVariants.{Papers}
use Rattle.dip_judge.proofs.stored.report_stored.Goals as goal

pub returns-in-Ok-Some : goal.returns-in-Ok-Some
returns-in-Ok-Some g c =
    let m = c.args.map.now in
    let k = c.in-Ok.keeper in
    rw c.into_store.ensures
    (record {
      done = (λ clean s says.
          let opened = c.in-Ok.ensures.opened (c.write_papers.ensures.fair clean) s says in
          let goes = rw c.in-Ok-Some.field-0-is at (c.in-Ok-Some.ensures.goes (is_open g.S.Store m s k opened) clean) in (
            reports c.args.game.now _ _ _ _ _ opened.says goes.2,
            holds_still g.S.Store m s k c.write_papers.new.self opened goes.0 goes.1,
          ));
      stops = λ clean s desk. tt;
      failed = tt;
      tells = (λ clean. c.in-Ok.ensures.made (c.write_papers.ensures.fair clean));
      lasts = (λ clean s desk law made.
          let opened = c.in-Ok.ensures.opened (c.write_papers.ensures.fair clean) s desk.says in
          let goes = c.in-Ok-Some.ensures.goes (is_open g.S.Store m s k opened) clean in
          record { never = tt; left = holds_lawful g.S.Store m c.args.text.now s _ law (leaves_text g.S.Store m c.args.text.now k c.write_papers.new.self c.in-Ok.ensures.of_map c.write_papers.ensures.same_map goes.0.again) (holds_still g.S.Store m s k c.write_papers.new.self opened goes.0 goes.1) });
      fair = λ clean. c.in-Ok.ensures.fair (c.write_papers.ensures.fair clean);
    })

pub returns-in-Ok-None : goal.returns-in-Ok-None
returns-in-Ok-None g c =
    let m = c.args.map.now in
    let k = c.in-Ok.keeper in
    rw c.into_store-in-Ok-None.ensures
    (record {
      done = λ clean s says. tt;
      stops = (λ clean s desk.
          let opened = c.in-Ok.ensures.opened (c.write_papers.ensures.fair clean) s desk.says in
          let goes = rw c.in-Ok-None.field-0-is at (c.in-Ok-None.ensures.goes (is_open g.S.Store m s k opened) clean) in
          let holds = holds_still g.S.Store m s k c.write_papers.new.self opened goes.0 goes.1 in
          (reports_none c.args.game.now _ _ _ _ opened.says goes.2, λ bad. absurd bad, ends_still g.S.Store m _ _ _ _ holds));
      failed = tt;
      tells = (λ clean. c.in-Ok.ensures.made (c.write_papers.ensures.fair clean));
      lasts = (λ clean s desk law made.
          let opened = c.in-Ok.ensures.opened (c.write_papers.ensures.fair clean) s desk.says in
          let goes = c.in-Ok-None.ensures.goes (is_open g.S.Store m s k opened) clean in
          record { never = λ bad. bad; left = holds_lawful g.S.Store m c.args.text.now s _ law (leaves_text g.S.Store m c.args.text.now k c.write_papers.new.self c.in-Ok.ensures.of_map c.write_papers.ensures.same_map goes.0.again) (holds_still g.S.Store m s k c.write_papers.new.self opened goes.0 goes.1) });
      fair = λ clean. c.in-Ok.ensures.fair (c.write_papers.ensures.fair clean);
    })

pub returns-in-Err-write_papers : goal.returns-in-Err-write_papers
returns-in-Err-write_papers g c =
    let m = c.args.map.now in
    let k = c.in-Ok.keeper in
    rw c.into_store-in-Err-write_papers.ensures
    (record {
      done = λ clean s says. tt;
      stops = (λ clean s desk.
          let opened = c.in-Ok.ensures.opened (c.write_papers.ensures.fair clean) s desk.says in
          let still = is_open g.S.Store m s k opened in
          let fault = c.in-Err-write_papers.fault in
          breaks_off g.S.Store m c.args.game.now (IsNowOf g.S.Store c.args.store) c.args.store s k c.write_papers.new.self fault _ _ opened c.in-Ok.ensures.counted
          (blamed g.S.Store c.args.store k c.write_papers.new.self (Papers fault) c.in-Ok.ensures.counted
          (λ bad. c.in-Err-write_papers.ensures.failed still clean (ap (λ (f : PaperFault). Err f) (disk_papers fault bad))))
          (c.in-Err-write_papers.ensures.ends still clean));
      failed = tt;
      tells = (λ clean. c.in-Ok.ensures.made (c.write_papers.ensures.fair clean));
      lasts = let fault = c.in-Err-write_papers.fault in
          (λ clean s desk law made.
          let opened = c.in-Ok.ensures.opened (c.write_papers.ensures.fair clean) s desk.says in
          let still = is_open g.S.Store m s k opened in
          let ends = breaks_off g.S.Store m c.args.game.now (IsNowOf g.S.Store c.args.store) c.args.store s k c.write_papers.new.self fault _ _ opened c.in-Ok.ensures.counted
          (blamed g.S.Store c.args.store k c.write_papers.new.self (Papers fault) c.in-Ok.ensures.counted
          (λ bad. c.in-Err-write_papers.ensures.failed still clean (ap (λ (f : PaperFault). Err f) (disk_papers fault bad))))
          (c.in-Err-write_papers.ensures.ends still clean) in
          record {
            never = λ bad. few_papers m _ c.args.game.now (subst (IsLawful m) (sym opened.says) law)
                (c.in-Err-write_papers.ensures.damaged still clean (ap (λ (f : PaperFault). Err f) (damage_papers fault bad)));
            left = ends_lawful g.S.Store m c.args.text.now _ s (λ _. ⊥) _ law (λ t none. absurd none)
                (leaves_text g.S.Store m c.args.text.now k c.write_papers.new.self c.in-Ok.ensures.of_map c.write_papers.ensures.same_map (c.in-Err-write_papers.ensures.ends still clean).ends.again) ends.2;
          });
      fair = λ clean. c.in-Ok.ensures.fair (c.write_papers.ensures.fair clean);
    })

pub returns-in-Err : goal.returns-in-Err
returns-in-Err g c =
    record {
      done = λ honest s says. tt;
      stops = λ honest s desk. (refl, c.in-Err.ensures.ends honest s desk);
      failed = tt;
      tells = shut_by g.S.Store c.args.map.now c.args.text.now c.args.store _ _ c.in-Err.ensures;
      lasts = λ honest s desk law made. record {
        never = λ bad. bad;
        left = shut_lawful g.S.Store c.args.map.now c.args.text.now _ s c.args.store _ law desk.says made (c.in-Err.ensures.ends honest s desk);
      };
      fair = c.in-Err.ensures.fair;
    }
