use Rattle.dip_store.proofs.Looking.{looks_well, looks_ill}
use Rattle.dip_store.proofs.keeper.SqlKeeperKeeper.paper.Goals as goal

pub returns-in-Ok : goal.returns-in-Ok
returns-in-Ok g c =
    let m = c.args._map.now in
    looks_well g.S.Store m c.args.self.now c.look_game_paper.new.conn _ _ c.in-Ok.paper _ c.in-Ok.ensures.selects
    (λ kept ours clean. c.in-Ok.ensures.value kept clean m)

pub returns-in-Err : goal.returns-in-Err
returns-in-Err g c =
    let m = c.args._map.now in
    rw (c.count_fault.ensures.same, c.count_fault.ensures.told, c.row_fault.ensures)
    (looks_ill g.S.Store m c.args.self.now c.look_game_paper.new.conn _ _ c.in-Err.fault _ c.in-Err.ensures.selects (λ kept shows clean. c.in-Err.ensures.own kept shows clean m))
