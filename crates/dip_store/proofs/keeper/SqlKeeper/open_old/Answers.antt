use Rattle.std.proofs.Common.{◌≡◌, rules, Err, inl, inr, List, ap, arith, refl, subst, sym, ◌∙◌, ℕ}
use Rattle.sha2.specs.Sha256.{sha256}
use Rattle.sqlite.specs.Held.{state}
use Rattle.dip_store_sql.specs.Calls.{old_tables_in}
use Rattle.dip_store_schema.specs.Desk.{DeskSays}
use Rattle.dip_store_schema.specs.declared.faults.StoreFault.{StoreFault}
use Rattle.dip_store_schema.proofs.Refilling.{decided}
use Rattle.dip_store_schema.proofs.Refused.{outage_refused, own_outage}
use Rattle.dip_store_schema.proofs.Short.{short_room}
use Rattle.dip_store.proofs.Opened.{none_new, says_old, stays_shut, was_kept_by}
use Rattle.dip_store.proofs.Renewal.{late_base, late_cause, late_closes, late_left, late_outage, late_still, opens_renewed, renews_stored}
use Rattle.dip_store.proofs.keeper.SqlKeeper.open_old.Goals as goal

pub returns-in-Ok : goal.returns-in-Ok
returns-in-Ok g c =
    let m = c.args.map.now in
    let store = c.args.store in
    let ready = c.requires.ready in
    let now = (state g.S.Store store).now in
    let it = c.in_default.ensures in
    let renews = c.in-Ok.ensures in
    let sum : c.sum.result ≡ sha256 c.args.map_text.now = search rules in
    rw c.over.ensures
    (record {
      opened = λ clean s says.
          let own = says_old m now s c.requires.none says in
          let honest = renews.fair clean in
          opens_renewed g.S.Store m (c.old_tables_are_renewed.ensures m) store own.0 s own.1 c.sum.result
          (subst (λ (x : List ℕ). DeskSays 1 x (old_tables_in g.S.Store store)) (sym sum) (it.says (was_kept_by g.S.Store m store ready own.0 (it.shown honest)) honest))
          c.in_default.field-0 c.args.alloc c.check_old_desk.new.conn c.renew.new.conn c.commits_last-in-Ok.ensures
          it.selects ready (it.shown honest) honest (λ kept here. renews.kept kept m here clean) (renews.ok clean);
      of_map = sum;
      told = refl;
      made = λ clean. record {
        new = λ own. absurd (none_new m now c.requires.none own);
        old = λ own.
            let honest = renews.fair clean in
            it.says (was_kept_by g.S.Store m store ready own (it.shown honest)) honest;
      };
      known = λ clean tells. inr (it.known (renews.fair clean));
      refused = tt;
      own = tt;
      caused = tt;
      same = tt;
      ends = tt;
      fair = λ clean. it.selects.fair (renews.fair clean);
      counted = omega (arith, it.selects.counts, renews.counted);
    })

-- the tables or the master's row are none of version 1, or of another map
pub returns-in-Err : goal.returns-in-Err
returns-in-Err g c =
    let m = c.args.map.now in
    let store = c.args.store in
    let new = c.check_old_desk.new.conn in
    let ready = c.requires.ready in
    let now = (state g.S.Store store).now in
    let it = c.in-Err.ensures in
    let p = it.selects in
    record {
      opened = tt;
      of_map = tt;
      told = tt;
      made = tt;
      known = λ clean tells. inr (it.known_first clean tells);
      refused = λ clean. record {
        new = λ own. absurd (none_new m now c.requires.none own);
        old = λ own. it.refused (was_kept_by g.S.Store m store ready own) clean own.good.schema m own.ours;
      };
      own = λ clean s says made.
          let own = (says_old m now s c.requires.none says).0 in
          own_outage 1 c.args.map_text.now (old_tables_in g.S.Store store) c.in-Err.fault (omega arith) (made.old own)
          (it.refused (was_kept_by g.S.Store m store ready own) clean own.good.schema m own.ours);
      caused = λ clean shows is. inr (inl (it.caused clean shows (ap (λ (f : StoreFault). Err f) is)));
      same = λ shows s says.
          let kept = was_kept_by g.S.Store m store ready (says_old m now s c.requires.none says).0 (p.shown shows) in
          sym (p.kept kept shows).settled ∙ p.same kept shows ∙ kept.settled;
      ends = λ clean s desk.
          let kept = was_kept_by g.S.Store m store ready (says_old m now s c.requires.none desk.says).0 desk.shows in
          stays_shut g.S.Store m s store new ready desk.shows c.commits_last.ensures _ (p.mode desk.idle) (p.same kept) (p.closes clean desk.shows) (λ db may. inl (p.left kept clean db may));
      fair = p.fair;
      counted = p.counts;
    }

-- they are, and can't be made anew
pub returns-in-Err-renew : goal.returns-in-Err-renew
returns-in-Err-renew g c =
    let m = c.args.map.now in
    let store = c.args.store in
    let a = c.check_old_desk.new.conn in
    let new = c.renew.new.conn in
    let ready = c.requires.ready in
    let now = (state g.S.Store store).now in
    let it = c.in_default.ensures in
    let p = it.selects in
    let renews = c.in-Err-renew.ensures in
    let x = c.in_default.field-0 in
    let fault = c.in-Err-renew.fault in
    record {
      opened = tt;
      of_map = tt;
      told = tt;
      made = tt;
      known = λ clean tells. inr (it.known (renews.fair clean));
      refused = λ clean. record {
        new = λ own. absurd (none_new m now c.requires.none own);
        old = λ own. outage_refused 1 (sha256 c.args.map_text.now) _ fault (late_outage g.S.Store m store a new ready own (it.shown (renews.fair clean)) x p fault renews clean);
      };
      own = λ clean s says made.
          late_outage g.S.Store m store a new ready (says_old m now s c.requires.none says).0 (it.shown (renews.fair clean)) x p fault renews clean;
      caused = λ clean shows is.
          let honest = renews.fair clean in
          elim (decided g.S.Store store new) [
            | inl more ↦ inr (inl more)
            | inr none ↦ inr (inr (
              (c.requires.none, it.known honest),
              λ own.
                  elim (late_cause g.S.Store m store a new ready own shows x p fault renews clean is) [
                    | inl more ↦ absurd (none more)
                    | inr full ↦ record {
                      says = it.says (was_kept_by g.S.Store m store ready own shows) honest;
                      outgrows = full;
                      long = λ short. full (short_room now own.good short);
                    }
                  ],
            ))
          ];
      same = λ shown s says.
          late_base g.S.Store m store a new ready (says_old m now s c.requires.none says).0 (p.shown (renews.shown shown)) x p fault renews shown.0 shown;
      ends = λ clean s desk.
          let own = says_old m now s c.requires.none desk.says in
          let law = c.old_tables_are_renewed.ensures m in
          stays_shut g.S.Store m s store new ready desk.shows c.commits_last.ensures _ renews.idle
          (late_still g.S.Store m store a new ready own.0 desk.shows x p fault renews clean)
          (late_closes g.S.Store m store a new ready own.0 desk.shows x p fault renews clean)
          (λ db may. elim (late_left g.S.Store m store a new ready own.0 desk.shows x p fault renews clean db may) [
            | inl before ↦ inl before
            | inr anew ↦ inr (renews_stored g.S.Store m law store own.0 s own.1 db anew)
          ]);
      fair = λ clean. p.fair (renews.fair clean);
      counted = omega (arith, p.counts, renews.counted);
    }
