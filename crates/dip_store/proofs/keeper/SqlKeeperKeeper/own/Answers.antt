use Rattle.std.proofs.Common.{rules, ◌≡◌, IfSome, Option, Some, subst, sym, ◌∙◌}
use Rattle.std.proofs.lemmas.Result.{err_from_is_err_and}
use Rattle.sqlite.specs.Held.{state}
use Rattle.dip_desk_state.specs.Rows as rows
use Rattle.dip_desk_state.specs.Records.{Own}
use Rattle.dip_store_sql.specs.Calls.{tables_in}
use Rattle.dip_desk_state.specs.State.{IsIdle}
use Rattle.dip_store_tables.specs.Coding.{AreCoded}
use Rattle.dip_store_memory.specs.Owns.{own_among, owns_of}
use Rattle.dip_store.specs.Stored.{said_by}
use Rattle.dip_store.proofs.Looking.{looks_learned, looks_ill, looks_recalled, looks_wanting}
use Rattle.dip_store_memory.proofs.Owning.{recalled_own}
use Rattle.dip_store.proofs.keeper.SqlKeeperKeeper.own.Goals as goal

pub returns-in-Some : goal.returns-in-Some
returns-in-Some g c =
    let s = said_by c.args.map.now (state g.S.Store c.args.self.now.conn).now.trees in
    let copied : own_among c.args.power (owns_of c.args.game.now c.args.self.now.owns) ≡ Some (rows.own c.in_ok-copy.field-0) = search rules in
    looks_recalled g.S.Store c.args.map.now c.args.self.now _ _ _ (λ recalls. sym (recalled_own s c.args.self.now.owns c.args.game.now c.args.power (rows.own c.in_ok-copy.field-0) recalls.1 copied))

pub returns-in_err-copy : goal.returns-in_err-copy
returns-in_err-copy g c =
    let p = err_from_is_err_and c.from_residual.result c.from_residual.ensures.1 in
    rw (p.1, p.2) (looks_wanting g.S.Store c.args.map.now c.args.self.now _ _)

pub returns-in-Ok : goal.returns-in-Ok
returns-in-Ok g c =
    let m = c.args.map.now in
    let name = c.args.game.now in
    let is = λ (coded : AreCoded m (tables_in g.S.Store c.args.self.now.conn)). c.own_is_found.ensures m c.facts.ensures (tables_in g.S.Store c.args.self.now.conn) name c.args.power coded c.requires in
    looks_learned g.S.Store m c.args.self.now c.look_own.new.conn _ _ c.in-Ok.own _ c.args.self.now.seen c.learn.new.self c.args.self.now.idle c.in-Ok.ensures.selects
    (λ kept clean. c.in-Ok.ensures.value kept.0 clean
    (λ so. subst (λ (o : Option Own). IfSome o IsIdle) (is kept.1.coded) (kept.4 name c.args.power (sym c.is_idle-idle.ensures ∙ so)))
    ∙ sym (is kept.1.coded))
    (λ recalls is. (recalls.0, c.learn.ensures.recalls (said_by m (state g.S.Store c.args.self.now.conn).now.trees) c.args.power recalls.1 is, recalls.2))

pub returns-in-Err : goal.returns-in-Err
returns-in-Err g c =
    let m = c.args.map.now in
    rw (c.count_fault.ensures.same, c.count_fault.ensures.told, c.row_fault.ensures)
    (looks_ill g.S.Store m c.args.self.now c.look_own.new.conn _ _ c.in-Err.fault _ c.in-Err.ensures.selects c.in-Err.ensures.own)
