use Rattle.std.proofs.Common.{◌∙◌, ap, inl, List, map, refl}
use Rattle.std.proofs.lemmas.Result.{on_err_weaker, on_ok_weaker}
use Rattle.dip_desk_state.specs.Rows as rows
use Rattle.dip_desk_state.specs.declared.records.Own.{Own}
use Rattle.dip_store_memory.proofs.Owning.{not_noted, noted_own, on_err, owned, pushed_said}
use Rattle.dip_store_memory.proofs.owns.SeenOwns.note.Goals as goal

pub returns-clause-ok : goal.returns-clause-ok
returns-clause-ok c =
    on_ok_weaker c.put.result
    (λ put. noted_own c.args.game.now (rows.own c.args.own.now) c.args.self.now c.make_room.new.self c.take-owns.new.self c.put.new.self (owned c.take-owns.result) (owned c.push_exact.new.owns)
    c.make_room.ensures c.take-owns.ensures.taken c.take-owns.ensures.left put
    (ap (λ (os : List Own). map (λ o. rows.own o) os) c.in_ok-push_exact.ensures ∙ pushed_said c.take-owns.result.items _ (rows.own c.args.own.now) c.in_ok-copy.ensures))
    c.put.ensures.ok

pub returns-clause-err : goal.returns-clause-err
returns-clause-err c =
    on_err_weaker c.put.result
    (λ same. not_noted c.args.game.now c.args.self.now c.make_room.new.self c.take-owns.new.self c.put.new.self c.make_room.ensures c.take-owns.ensures.left same)
    c.put.ensures.err

pub returns-in_err-push_exact-clause-err : goal.returns-in_err-push_exact-clause-err
returns-in_err-push_exact-clause-err c =
    on_err c.from_residual-in_err-push_exact.result
    (not_noted c.args.game.now c.args.self.now c.make_room.new.self c.take-owns.new.self c.take-owns.new.self c.make_room.ensures c.take-owns.ensures.left refl)

pub returns-in_err-copy-clause-err : goal.returns-in_err-copy-clause-err
returns-in_err-copy-clause-err c = on_err c.from_residual.result (λ name. inl refl)
