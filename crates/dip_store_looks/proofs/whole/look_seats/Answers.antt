use Rattle.std.proofs.Common.{◌≡◌, map, subst, sym}
use Rattle.dip_store_tables.specs.Legible.{AreOurs}
use Rattle.dip_desk_state.specs.Rows as rows
use Rattle.dip_store_sql.specs.Calls.{tables_in}
use Rattle.dip_store_sql.proofs.Caused.{faulted_late}
use Rattle.dip_store_sql.proofs.RowFaults.{outside_of, told_on}
use Rattle.sqlite.specs.Held.{state}
use Rattle.std.specs.Prelude.{IfOk}
use Rattle.dip_store_tables.specs.Tables.{Tables}
use Rattle.dip_store_looks.specs.Shown.{listed_own}
use Rattle.dip_store_looks.proofs.Onward.{goes_on, leaves, stays}
use Rattle.dip_store_looks.proofs.RowLemmas.{seats_readable}
use Rattle.dip_store_looks.proofs.WholeLemmas.{seats_are}
use Rattle.dip_store_looks.proofs.whole.look_seats.Goals as goal

pub returns-clause-value : goal.returns-clause-value
returns-clause-value g c kept clean =
    let m = c.args.map.now in
    let name = c.args.game.now in
    let seats = c.in_ok-rows.rows in
    let one = c.in_ok-rows.ensures.selects in
    let clean1 = (c.owns_of.ensures.selects _ (stays g.S.Store c.args.conn.now _ seats kept one)).fair clean in
    let here = leaves g.S.Store c.args.conn.now _ seats one kept clean1 in
    let read = subst (λ (t : Tables). IfOk c.owns_of.result (λ v. map rows.own v.items ≡ map (listed_own m t name) seats.items)) here.1
    (rw c.as_slice.ensures.value at (c.owns_of.ensures.value here.0 clean)) in
    seats_are m (λ v. map rows.own v.items) (tables_in g.S.Store c.args.conn.now) name seats.items c.owns_of.result read (c.in_ok-rows.ensures.value kept clean1)

pub returns-clause-selects : goal.returns-clause-selects
returns-clause-selects g c = goes_on g.S.Store _ _ _ c.in_ok-rows.rows c.owns_of.result c.in_ok-rows.ensures.selects c.owns_of.ensures.selects

pub returns-clause-own : goal.returns-clause-own
returns-clause-own g c kept shows clean ours =
    let m = c.args.map.now in
    let seats = c.in_ok-rows.rows in
    let one = c.in_ok-rows.ensures.selects in
    let clean1 = (c.owns_of.ensures.selects _ (stays g.S.Store c.args.conn.now _ seats kept one)).fair clean in
    let here = leaves g.S.Store c.args.conn.now _ seats one kept clean1 in
    let readable = seats_readable m (tables_in g.S.Store c.args.conn.now) ours c.args.game.now seats.items (c.in_ok-rows.ensures.value kept clean1) in
    let fails = rw c.as_slice.ensures.value at c.owns_of.ensures.own in
    let late = faulted_late (state g.S.Store c.args.conn.now) (state g.S.Store c.list_seats.new.conn) (state g.S.Store c.owns_of.new.conn) one.counts in
    outside_of _ _ c.owns_of.result late (fails here.0 (one.ok kept clean1) clean (subst (AreOurs m) (sym here.1) ours) readable)

pub returns-in_err-rows-clause-own : goal.returns-in_err-rows-clause-own
returns-in_err-rows-clause-own g c kept shows clean ours =
    told_on _ _ c.in_err-rows.field-0.0 c.from_residual.result c.from_residual.ensures.1 (λ fault. fault) (c.in_err-rows.ensures.caused kept shows clean)
