use Rattle.std.proofs.Common.{◌≡◌, ℕ, drop, Ok, Err, subst, sym, take}
use Rattle.std.proofs.lemmas.Result.{err_from_is_err_and}
use Rattle.dip_store_tables.specs.Boards.{power_name}
use Rattle.dip_store_tables.specs.Legible.{AreOurs}
use Rattle.dip_desk_state.specs.Rows as rows
use Rattle.dip_store_sql.specs.Calls.{tables_in}
use Rattle.dip_store_sql.proofs.Selecting.{selects_as, selects_fails}
use Rattle.dip_store_tables.specs.Counting.{counted, item_numbers}
use Rattle.dip_store_tables.specs.Reading.{items_of}
use Rattle.dip_store_tables.specs.Tables.{Tables}
use Rattle.dip_store_sql.proofs.RowFaults.{outside_weaker}
use Rattle.dip_store_sql.proofs.Caused.{caused_weaker, faulted_late}
use Rattle.sqlite.specs.Held.{state}
use Rattle.dip_store_looks.proofs.Onward.{goes_on, leaves, stays}
use Rattle.dip_store_looks.proofs.PageLemmas.{page_is, page_low, seat_counts}
use Rattle.dip_store_looks.proofs.RowLemmas.{seat_found_readable}
use Rattle.dip_store_looks.proofs.inbox.look_items.Goals as goal

pub returns-in-Ok-clause-value : goal.returns-in-Ok-clause-value
returns-in-Ok-clause-value g c kept clean =
    let seat = c.in_ok-row.ensures.selects in
    let row = c.in-Some.row in
    let m = c.args.map.now in
    let name = c.args.game.now in
    let power = power_name m c.args.power in
    let items = c.in-Ok.items in
    let many = c.min-many.result in
    let skipped = c.saturating_sub-skipped.result in
    let first = (c.in-Ok.ensures.selects _ (stays g.S.Store c.args.conn.now _ c.in_ok-row.field-0 kept seat)).fair clean in
    let here = leaves g.S.Store _ _ c.in_ok-row.field-0 seat kept first in
    let read = subst (λ (t : Tables). (n : ℕ) → item_numbers t.boxes name power ≡ counted n → rows.items items.items ≡ take many (drop skipped (items_of t.boxes name power))) here.1
    (rw c.power_name-name.ensures at (c.in-Ok.ensures.value here.0 clean)) in
    page_is m (c.page_is_found.ensures m) (tables_in g.S.Store c.args.conn.now) name power c.args.first c.args.most c.in_ok-count.count skipped many row (rows.items items.items) kept.counted
    (rw (c.in-Some.is, c.power_name-name.ensures) at (c.in_ok-row.ensures.value kept first))
    c.in_ok-count.ensures.value c.saturating_sub-skipped.ensures (rw c.saturating_sub.ensures at c.min-many.ensures) read

pub returns-in-Ok-clause-selects : goal.returns-in-Ok-clause-selects
returns-in-Ok-clause-selects g c = selects_as g.S.Store _ _ c.in-Ok.items _ (goes_on g.S.Store _ _ _ c.in_ok-row.field-0 (Ok c.in-Ok.items) c.in_ok-row.ensures.selects c.in-Ok.ensures.selects)

pub returns-clause-selects : goal.returns-clause-selects
returns-clause-selects g c =
    selects_fails g.S.Store _ _ c.in-Err.fault c.in-Err.fault (goes_on g.S.Store _ _ _ c.in_ok-row.field-0 (Err c.in-Err.fault) c.in_ok-row.ensures.selects c.in-Err.ensures.selects)

pub returns-in_err-count-clause-own : goal.returns-in_err-count-clause-own
returns-in_err-count-clause-own g c kept shows clean ours =
    let row = rw (c.in-Some.is, c.power_name-name.ensures) at (c.in_ok-row.ensures.value kept clean) in
    let readable = seat_found_readable c.args.map.now (tables_in g.S.Store c.args.conn.now) ours c.args.game.now (power_name c.args.map.now c.args.power) c.in-Some.row row in
    let p = err_from_is_err_and c.from_residual-in_err-count.result c.from_residual-in_err-count.ensures.1 in
    rw (p.1, p.2) (caused_weaker ⊥ _ _ (λ none. absurd none) (c.in_err-count.ensures.own readable.items))

pub returns-clause-own : goal.returns-clause-own
returns-clause-own g c kept shows clean ours =
    let seat = c.in_ok-row.ensures.selects in
    let m = c.args.map.now in
    let name = c.args.game.now in
    let power = power_name m c.args.power in
    let count = c.in_ok-count.count in
    let first = (c.in-Err.ensures.selects _ (stays g.S.Store c.args.conn.now _ c.in_ok-row.field-0 kept seat)).fair clean in
    let here = leaves g.S.Store _ _ c.in_ok-row.field-0 seat kept first in
    let row = rw (c.in-Some.is, c.power_name-name.ensures) at (c.in_ok-row.ensures.value kept first) in
    let counts = seat_counts m (tables_in g.S.Store c.args.conn.now) name power count c.in-Some.row kept.counted row c.in_ok-count.ensures.value in
    let low = page_low c.args.most count c.saturating_sub-skipped.result c.min-many.result (rw c.saturating_sub.ensures at c.min-many.ensures) in
    let fails = rw c.power_name-name.ensures at (c.in-Err.ensures.own here.0 (seat.ok kept first) clean m (subst (AreOurs m) (sym here.1) ours) count) in
    let late = faulted_late (state g.S.Store c.args.conn.now) (state g.S.Store c.find_seat.new.conn) (state g.S.Store c.items_after.new.conn) seat.counts in
    outside_weaker _ _ c.in-Err.fault late (fails (subst (λ (t : Tables). item_numbers t.boxes name power ≡ counted count) (sym here.1) counts) low)
