use Rattle.std.proofs.Common.{◌∙◌}
use Rattle.std.proofs.lemmas.Result.{err_from_is_err_and}
use Rattle.dip_store_sql.specs.Calls.{tables_in}
use Rattle.dip_store.proofs.Asked.{whole_found}
use Rattle.dip_store.proofs.Looking.{looks_learned, looks_ill, looks_wanting}
use Rattle.dip_store.proofs.Recalled.{part_known}
use Rattle.dip_store.proofs.keeper.SqlKeeperKeeper.whole.Goals as goal

pub returns-in_err-known : goal.returns-in_err-known
returns-in_err-known g c =
    let p = err_from_is_err_and c.from_residual.result c.from_residual.ensures.1 in
    rw (p.1, p.2) (looks_wanting g.S.Store c.args.map.now c.args.self.now _ _)

pub returns-in-Ok : goal.returns-in-Ok
returns-in-Ok g c =
    let m = c.args.map.now in
    let k = c.args.self.now in
    let name = c.args.game.now in
    looks_learned g.S.Store m k c.look_whole.new.conn _ _ c.in-Ok.whole _ k.seen k.owns k.idle c.in-Ok.ensures.selects
    (λ kept clean. c.in-Ok.ensures.value kept.0 clean (part_known m (tables_in g.S.Store k.conn) name _ k.seen c.in_ok-known.ensures kept.2)
    ∙ whole_found m (tables_in g.S.Store k.conn) name)
    (λ recalls is. recalls)

pub returns-in-Err : goal.returns-in-Err
returns-in-Err g c =
    let m = c.args.map.now in
    rw (c.count_fault.ensures.same, c.count_fault.ensures.told, c.row_fault.ensures)
    (looks_ill g.S.Store m c.args.self.now c.look_whole.new.conn _ _ c.in-Err.fault _ c.in-Err.ensures.selects c.in-Err.ensures.own)
