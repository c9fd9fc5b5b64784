use Rattle.std.proofs.Common.{◌∙◌}
use Rattle.dip_store_sql.specs.Calls.{tables_in}
use Rattle.dip_store.proofs.Asked.{page_found}
use Rattle.dip_store.proofs.Looking.{looks_well, looks_ill}
use Rattle.dip_store.proofs.keeper.SqlKeeperKeeper.items.Goals as goal

pub returns-in-Ok : goal.returns-in-Ok
returns-in-Ok g c =
    let m = c.args.map.now in
    looks_well g.S.Store m c.args.self.now c.look_items.new.conn _ _ c.in-Ok.items _ c.in-Ok.ensures.selects
    (λ kept ours clean. c.in-Ok.ensures.value kept clean
    ∙ page_found m c.facts.ensures (c.page_is_found.ensures m) (tables_in g.S.Store c.args.self.now.conn) ours.coded kept.counted c.args.game.now c.args.power c.args.first c.args.most c.requires)

pub returns-in-Err : goal.returns-in-Err
returns-in-Err g c =
    let m = c.args.map.now in
    rw (c.count_fault.ensures.same, c.count_fault.ensures.told, c.row_fault.ensures)
    (looks_ill g.S.Store m c.args.self.now c.look_items.new.conn _ _ c.in-Err.fault _ c.in-Err.ensures.selects c.in-Err.ensures.own)
