use Rattle.std.proofs.Common.{◌≡◌, rules, inl, inr, Err, List, ap, arith, refl, subst, sym, ◌∙◌, ℕ}
use Rattle.sha2.specs.Sha256.{sha256}
use Rattle.sqlite.specs.Held.{state}
use Rattle.dip_store_sql.specs.Calls.{tables_in}
use Rattle.dip_store_schema.specs.Desk.{DeskSays}
use Rattle.dip_store_schema.specs.declared.faults.StoreFault.{StoreFault}
use Rattle.dip_store_schema.proofs.Refused.{own_outage}
use Rattle.dip_store.proofs.Opened.{kept_by, none_old, opens_same, says_new, stays_shut}
use Rattle.dip_store.proofs.keeper.SqlKeeper.open_new.Goals as goal

pub returns-in-Ok : goal.returns-in-Ok
returns-in-Ok g c =
    let m = c.args.map.now in
    let store = c.args.store in
    let ready = c.requires.ready in
    let now = (state g.S.Store store).now in
    let it = c.in-Ok.ensures in
    let sum : c.sum.result ≡ sha256 c.args.map_text.now = search rules in
    rw c.over.ensures
    (record {
      opened = λ clean s says.
          let own = says_new m now s c.requires.ballots says in
          opens_same g.S.Store m c.args.alloc c.check_desk.new.conn c.commits_last-in-Ok.ensures c.in-Ok.field-0 store c.sum.result ready s own (it.shown clean) it.selects clean
          (subst (λ (x : List ℕ). DeskSays 2 x (tables_in g.S.Store store)) (sym sum) (it.says (kept_by g.S.Store m store ready own.0 (it.shown clean)) clean));
      of_map = sum;
      told = refl;
      made = λ clean. record {
        new = λ own. it.says (kept_by g.S.Store m store ready own (it.shown clean)) clean;
        old = λ own. absurd (none_old m now c.requires.ballots own);
      };
      known = λ clean tells. inl (it.known clean);
      refused = tt;
      own = tt;
      caused = tt;
      same = tt;
      ends = tt;
      fair = it.selects.fair;
      counted = it.selects.counts;
    })

pub returns-in-Err : goal.returns-in-Err
returns-in-Err g c =
    let m = c.args.map.now in
    let store = c.args.store in
    let new = c.check_desk.new.conn in
    let ready = c.requires.ready in
    let now = (state g.S.Store store).now in
    let it = c.in-Err.ensures in
    let p = it.selects in
    record {
      opened = tt;
      of_map = tt;
      told = tt;
      made = tt;
      known = λ clean tells. inl (it.known_first clean tells);
      refused = λ clean. record {
        new = λ own. it.refused (kept_by g.S.Store m store ready own) clean own.good.schema m own.ours;
        old = λ own. absurd (none_old m now c.requires.ballots own);
      };
      own = λ clean s says made.
          let own = (says_new m now s c.requires.ballots says).0 in
          own_outage 2 c.args.map_text.now (tables_in g.S.Store store) c.in-Err.fault (omega arith) (made.new own)
          (it.refused (kept_by g.S.Store m store ready own) clean own.good.schema m own.ours);
      caused = λ clean shows is. inr (inl (it.caused clean shows (ap (λ (f : StoreFault). Err f) is)));
      same = λ shows s says.
          let kept = kept_by g.S.Store m store ready (says_new m now s c.requires.ballots says).0 (p.shown shows) in
          sym (p.kept kept shows).settled ∙ p.same kept shows ∙ kept.settled;
      ends = λ clean s desk.
          let kept = kept_by g.S.Store m store ready (says_new m now s c.requires.ballots desk.says).0 desk.shows in
          stays_shut g.S.Store m s store new ready desk.shows c.commits_last.ensures _ (p.mode desk.idle) (p.same kept) (p.closes clean desk.shows) (λ db may. inl (p.left kept clean db may));
      fair = p.fair;
      counted = p.counts;
    }
