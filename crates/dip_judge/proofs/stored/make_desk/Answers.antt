use Rattle.std.proofs.Common.{[], None, refl, subst}
use Rattle.dip_store.proofs.Opened.{leaves_text}
use Rattle.dip_store.specs.Opening.{Opens}
use Rattle.dip_judge.proofs.StoredLemmas.{holds, unmade_by}
use Rattle.dip_judge.proofs.stored.make_desk.Goals as goal

pub returns-in-Ok : goal.returns-in-Ok
returns-in-Ok g c =
    let m = c.args.map.now in
    let k = c.in-Ok.keeper in
    rw c.into_store.ensures
    (record {
      made = (λ honest. (
        holds g.S.Store c.args.map.now _ c.in-Ok.keeper
            (subst (λ d. Opens g.S.Store c.args.map.now (record { desk = record { digest = d; kept = None }; games = [] }) c.in-Ok.keeper) c.digest-digest.ensures (c.in-Ok.ensures.opened honest)),
        c.in-Ok.ensures.made honest,
        leaves_text g.S.Store c.args.map.now c.args.text.now c.in-Ok.keeper c.in-Ok.keeper c.in-Ok.ensures.of_map refl (c.in-Ok.ensures.opened honest).again,
      ));
      unmade = tt;
      same = λ shows. tt;
      fair = λ shows. c.in-Ok.ensures.fair shows.0;
    })

pub returns-in-Err : goal.returns-in-Err
returns-in-Err g c =
    record {
      made = λ honest. tt;
      unmade = unmade_by g.S.Store c.args.map.now c.args.text.now _ c.args.store _ _ c.in-Err.ensures;
      same = c.in-Err.ensures.same;
      fair = λ shows. c.in-Err.ensures.fair shows.0;
    }
