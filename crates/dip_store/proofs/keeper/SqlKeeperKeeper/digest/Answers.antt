use Rattle.std.proofs.Common.{rules, ◌≡◌, Some, ap, option_map, sym, ◌∙◌}
use Rattle.sqlite.specs.Held.{state}
use Rattle.dip_desk_state.specs.Rows as rows
use Rattle.dip_desk_state.specs.Records.{Own}
use Rattle.dip_store_sql.specs.Calls.{tables_in}
use Rattle.dip_store_memory.specs.Owns.{own_among, owns_of}
use Rattle.dip_store_memory.proofs.Owning.{recalled_own}
use Rattle.dip_store.specs.Stored.{said_by}
use Rattle.dip_store.proofs.Asked.{digest_found}
use Rattle.dip_store.proofs.Looking.{looks_ill, looks_recalled, looks_well}
use Rattle.dip_store.proofs.keeper.SqlKeeperKeeper.digest.Goals as goal

pub returns-in-Some : goal.returns-in-Some
returns-in-Some g c =
    let s = said_by c.args.map.now (state g.S.Store c.args.self.now.conn).now.trees in
    let found : own_among c.args.power (owns_of c.args.game.now c.args.self.now.owns) ≡ Some (rows.own c.in-Some.seen.now) = search rules in
    looks_recalled g.S.Store c.args.map.now c.args.self.now _ _ _
    (λ recalls. ap (option_map (λ (o : Own). o.digest)) (sym (recalled_own s c.args.self.now.owns c.args.game.now c.args.power (rows.own c.in-Some.seen.now) recalls.1 found)))

pub returns-in-Ok : goal.returns-in-Ok
returns-in-Ok g c =
    let m = c.args.map.now in
    looks_well g.S.Store m c.args.self.now c.look_digest.new.conn _ _ c.in-Ok.digest _ c.in-Ok.ensures.selects
    (λ kept ours clean. c.in-Ok.ensures.value kept clean
    ∙ digest_found m (c.own_is_found.ensures m c.facts.ensures) (tables_in g.S.Store c.args.self.now.conn) ours.coded c.args.game.now c.args.power c.requires)

pub returns-in-Err : goal.returns-in-Err
returns-in-Err g c =
    let m = c.args.map.now in
    rw (c.count_fault.ensures.same, c.count_fault.ensures.told, c.row_fault.ensures)
    (looks_ill g.S.Store m c.args.self.now c.look_digest.new.conn _ _ c.in-Err.fault _ c.in-Err.ensures.selects c.in-Err.ensures.own)
