use Rattle.std.proofs.Common.{rules, ◌≡◌, Some, sym}
use Rattle.std.proofs.lemmas.Result.{err_from_is_err_and}
use Rattle.sqlite.specs.Held.{state}
use Rattle.dip_desk_state.specs.Rows as rows
use Rattle.dip_store_memory.specs.Seen.{part_of}
use Rattle.dip_store.specs.Stored.{said_by}
use Rattle.dip_store.proofs.Looking.{looks_learned, looks_ill, looks_recalled, looks_wanting}
use Rattle.dip_store.proofs.keeper.SqlKeeperKeeper.public.Goals as goal

pub returns-in-Some : goal.returns-in-Some
returns-in-Some g c =
    let copied : part_of c.args.game.now c.args.self.now.seen ≡ Some (rows.public c.in_ok-clone.field-0.value) = search rules in
    looks_recalled g.S.Store c.args.map.now c.args.self.now _ _ _ (λ recalls. sym (recalls.0 c.args.game.now (rows.public c.in_ok-clone.field-0.value) copied))

pub returns-in_err-clone : goal.returns-in_err-clone
returns-in_err-clone g c =
    let p = err_from_is_err_and c.from_residual.result c.from_residual.ensures.1 in
    rw (p.1, p.2) (looks_wanting g.S.Store c.args.map.now c.args.self.now _ _)

pub returns-in-Ok : goal.returns-in-Ok
returns-in-Ok g c =
    let m = c.args.map.now in
    looks_learned g.S.Store m c.args.self.now c.look_shared_public.new.conn _ _ c.in-Ok.public _ c.learn.new.self c.args.self.now.owns c.args.self.now.idle c.in-Ok.ensures.selects
    (λ kept clean. c.in-Ok.ensures.value kept.0 clean)
    (λ recalls is. (c.learn.ensures (said_by m (state g.S.Store c.args.self.now.conn).now.trees) recalls.0 is, recalls.1, recalls.2))

pub returns-in-Err : goal.returns-in-Err
returns-in-Err g c =
    rw (c.count_fault.ensures.same, c.count_fault.ensures.told, c.row_fault.ensures)
    (looks_ill g.S.Store c.args.map.now c.args.self.now c.look_shared_public.new.conn _ _ c.in-Err.fault _ c.in-Err.ensures.selects c.in-Err.ensures.own)
