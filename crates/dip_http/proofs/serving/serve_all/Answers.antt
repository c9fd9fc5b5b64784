use Rattle.std.proofs.Common.{◌≡◌, ◌∙◌, ◌+◌, ℕ, subst, arith, refl, rules}
use Rattle.std.proofs.lemmas.Result.{err_from_is_err_and}
use Rattle.dip_http.proofs.ServingLemmas.{meets_next, meets_none, met_more, serves_each, serves_to, told_next}
use Rattle.dip_http.specs.Serving.{ServesEach}
use Rattle.dip_http.proofs.serving.serve_all.Goals as goal

pub clients-init : goal.clients-init
clients-init g c = record {
  most = omega arith;
  count = refl;
  fair = λ honest. honest;
  same_map = refl;
  told = omega arith;
  ends = λ it honest. meets_none c.args.map.now g.K.Keeper.book c.args.keeper.now it;
  met = λ it honest shows. record { opens = it; meets = refl; lawful = λ lawful. lawful };
}

pub returns : goal.returns
returns g c =
    let m = c.args.map.now in
    let b = g.K.Keeper.book in
    let i = c.clients.invariant in
    let turns = c.connections_are_turns.ensures m in
    let decided = c.published_movements_are_decided.ensures m in
    let is : c.clients.served ≡ c.args.count = omega (arith, c.clients-test.false, i.most) in
    record {
      goes = λ it honest. subst (λ (n : ℕ). ServesEach m b n c.args.keeper.now c.clients.keeper) is
          (serves_each m b turns decided c.clients.served _ _ (i.ends it honest) (i.met it honest));
      ends = λ it honest. serves_to m b turns decided c.clients.served c.args.count _ _ i.most (i.ends it honest) (i.met it honest);
      never = λ it honest shows lawful bad. absurd (cc);
      failed = λ it honest bad. absurd (cc);
      shut = tt;
      count = i.count;
      fair = i.fair;
      same_map = i.same_map;
    }

pub returns-in_err-serve_next : goal.returns-in_err-serve_next
returns-in_err-serve_next g c =
    let m = c.args.map.now in
    let b = g.K.Keeper.book in
    let i = c.clients.invariant in
    let call = c.in_err-serve_next.ensures in
    let turns = c.connections_are_turns.ensures m in
    let decided = c.published_movements_are_decided.ensures m in
    let p = err_from_is_err_and c.from_residual.result c.from_residual.ensures.1 in
    rw (p.1, p.2) record {
      goes = λ it honest. tt;
      ends = λ it honest.
          let fair = call.fair honest in
          serves_to m b turns decided (c.clients.served + 1) c.args.count _ _ (omega (arith, c.clients-test.true))
          (meets_next m b c.clients.served c.args.keeper.now c.clients.keeper c.serve_next.new.keeper (i.ends it fair) i.told call.told (λ mid. call.ends mid honest))
          (λ shows.
          let so = i.met it fair (call.shown shows) in
          met_more m b c.clients.served _ _ _ so (call.ends so.opens honest) (call.lawful so.opens honest shows) shows);
      never = λ it honest shows lawful bad.
          let so = i.met it (call.fair honest) (call.shown shows) in
          call.never so.opens honest (so.lawful lawful) (cc);
      failed = λ it honest bad.
          let so = i.ends it (call.fair honest) in
          told_next m b c.clients.served c.args.keeper.now c.clients.keeper c.serve_next.new.keeper so i.told call.told (λ mid. call.failed mid honest (cc));
      shut = call.shut;
      count = search rules;
      fair = λ honest. i.fair (call.fair honest);
      same_map = call.same_map ∙ i.same_map;
    }

pub clients-preserved : goal.clients-preserved
clients-preserved g c =
    let m = c.args.map.now in
    let b = g.K.Keeper.book in
    let before = c.clients.invariant in
    let call = c.serve_next.ensures in
    record {
      most = omega (arith, c.clients-test.true);
      count = c.in_ok-serve_next.ensures.count ∙ before.count;
      fair = λ honest. before.fair (call.fair honest);
      same_map = call.same_map ∙ before.same_map;
      told = omega (arith, before.told, call.told);
      ends = λ it honest. meets_next m b c.clients.served c.args.keeper.now c.clients.keeper c.serve_next.new.keeper (before.ends it (call.fair honest)) before.told call.told (λ mid. call.ends mid honest);
      met = λ it honest shows.
          let so = before.met it (call.fair honest) (call.shown shows) in
          met_more m b c.clients.served _ _ _ so (call.ends so.opens honest) (call.lawful so.opens honest shows) shows;
    }
