use Rattle.std.proofs.Common.{Ok, Option, Some, None, refl, ap, sym, ◌∙◌}
use Rattle.sqlite.specs.Held.{state}
use Rattle.dip_desk_state.specs.ChangeRows as machine
use Rattle.dip_store_sql.specs.Calls.{tables_in}
use Rattle.dip_store_sql.proofs.Apart.{one_seat}
use Rattle.dip_store_sql.proofs.RowFaults.{same_fails}
use Rattle.dip_store_counts.proofs.Knowing.{counts_next, press_room, row_room}
use Rattle.dip_store_counts.proofs.Peeking.{peeks_as}
use Rattle.dip_store_sql.specs.declared.row_faults.RowFault.{RowFault}
use Rattle.dip_store_counts.specs.declared.known.AuthorRow.{AuthorRow}
use Rattle.dip_store_counts.proofs.counts.count_author.Goals as goal

pub returns-in_default-clause-value : goal.returns-in_default-clause-value
returns-in_default-clause-value g c kept known clean =
    let t = tables_in g.S.Store c.args.conn.now in
    counts_next c.args.map.now c.args.game.now t (one_seat (state g.S.Store c.args.conn.now).now kept.good) (machine.author c.args.author) (machine.effect c.args.effect.now) None None
    (sym c.in_default.is ∙ c.in_ok-row.ensures.value kept known clean) refl

pub returns-clause-value : goal.returns-clause-value
returns-clause-value g c kept known clean =
    let t = tables_in g.S.Store c.args.conn.now in
    counts_next c.args.map.now c.args.game.now t (one_seat (state g.S.Store c.args.conn.now).now kept.good) (machine.author c.args.author) (machine.effect c.args.effect.now) (Some c.in-Some.row) (Some c.in_ok-next.next)
    (sym c.in-Some.is ∙ c.in_ok-row.ensures.value kept known clean) (ap (λ r. Some r) c.in_ok-next.ensures.value)

pub returns-in_default-clause-room : goal.returns-in_default-clause-room
returns-in_default-clause-room g c kept known clean =
    let t = tables_in g.S.Store c.args.conn.now in
    press_room c.args.map.now c.args.game.now t (one_seat (state g.S.Store c.args.conn.now).now kept.good) (machine.author c.args.author) (machine.effect c.args.effect.now) None
    (sym c.in_default.is ∙ c.in_ok-row.ensures.value kept known clean) tt

pub returns-clause-room : goal.returns-clause-room
returns-clause-room g c kept known clean =
    let t = tables_in g.S.Store c.args.conn.now in
    press_room c.args.map.now c.args.game.now t (one_seat (state g.S.Store c.args.conn.now).now kept.good) (machine.author c.args.author) (machine.effect c.args.effect.now) (Some c.in-Some.row)
    (sym c.in-Some.is ∙ c.in_ok-row.ensures.value kept known clean) c.in_ok-next.ensures.room

pub returns-in_err-row-clause-fails : goal.returns-in_err-row-clause-fails
returns-in_err-row-clause-fails g c kept known shows clean all =
    same_fails _ _ ⊥ _ c.in_err-row.field-0.0 c.from_residual.result c.from_residual.ensures.1 (λ fault. fault) (λ none. absurd none) (c.in_err-row.ensures.fails kept shows clean all)

pub returns-in_err-next-clause-fails : goal.returns-in_err-next-clause-fails
returns-in_err-next-clause-fails g c kept known shows clean all =
    let t = tables_in g.S.Store c.args.conn.now in
    same_fails ⊥ _ _ _ c.in_err-next.field-0.0 c.from_residual-in_err-next.result c.from_residual-in_err-next.ensures.1 (λ none. absurd none)
    (λ off room. off (row_room c.args.map.now c.args.game.now t.seats c.in-Some.row (machine.author c.args.author) (machine.effect c.args.effect.now) (sym c.in-Some.is ∙ c.in_ok-row.ensures.value kept known clean) room))
    c.in_err-next.ensures.fails

pub returns-in_err-next-clause-peeks : goal.returns-in_err-next-clause-peeks
returns-in_err-next-clause-peeks g c =
    peeks_as g.S.Store {X = Option AuthorRow} {E = RowFault} {Y = Option AuthorRow} {F = RowFault} c.args.conn.now c.know_author.new.conn c.in_ok-row.field-0 c.from_residual-in_err-next.result c.in_ok-row.ensures.peeks

pub returns-clause-peeks : goal.returns-clause-peeks
returns-clause-peeks g c =
    peeks_as g.S.Store {X = Option AuthorRow} {E = RowFault} {Y = Option AuthorRow} {F = RowFault} c.args.conn.now c.know_author.new.conn c.in_ok-row.field-0 (Ok (Some c.in_ok-next.next)) c.in_ok-row.ensures.peeks
