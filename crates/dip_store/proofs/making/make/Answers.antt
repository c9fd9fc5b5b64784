use Rattle.std.proofs.Common.{◌≡◌, Ok, Err, Bool, List, Option, inr, sym, subst}
use Rattle.sqlite.specs.Held.{Held, state}
use Rattle.sqlite.specs.Store.{Ghosts}
use Rattle.dip_map.specs.Charts.{Chart}
use Rattle.dip_desk_state.specs.State.{Change}
use Rattle.sqlite.specs.declared.error.Error.{Error}
use Rattle.dip_desk_state.specs.ChangeRows as machine
use Rattle.dip_store_tables.specs.Changing.{changing}
use Rattle.dip_store_tables.specs.Coding.{AreApart}
use Rattle.dip_store_tables.specs.Counting.{AreCounted}
use Rattle.dip_store_sql.specs.Calls.{tables_in}
use Rattle.dip_store_sql.proofs.Caused.{faulted_late}
use Rattle.dip_store_sql.proofs.Blamed.{blamed_weaker}
use Rattle.dip_store_sql.proofs.Told.{want_weaker}
use Rattle.dip_store_sql.proofs.Keyed.{are_apart}
use Rattle.dip_store_tables.specs.Tables.{Tables}
use Rattle.dip_store_sql.specs.Keys.{AreKeyed}
use Rattle.dip_store_counts.specs.declared.readers.Reader.{Reader}
use Rattle.dip_store_counts.specs.Counts.{Counts}
use Rattle.dip_store_counts.specs.Knowing.{IsKeptAs, IsKeptFor, IsKnown, IsKnownBefore, IsUnordered, is_unordered, row_known}
use Rattle.dip_store_changes.specs.Parts.{changing_row}
use Rattle.dip_store_counts.specs.declared.known.AuthorRow.{AuthorRow}
use Rattle.dip_store_counts.specs.declared.known.KnownBefore.{KnownBefore}
use Rattle.dip_store_sql.specs.declared.row_faults.RowFault.{RowFault}
use Rattle.dip_store.proofs.Counted.{counted_change}
use Rattle.dip_store_counts.specs.declared.counts.Counted.{Counted}
use Rattle.dip_store.proofs.Transaction.{laid_kept, makes_named, makes_peeked}
use Rattle.dip_store_counts.proofs.Peeking.{peeks_counts, peeks_kept, peeks_shows}
use Rattle.dip_store.proofs.making.make.Goals as goal

-- what `count` asks for, of what is known
at_row : {S : Type 0} (g : Ghosts S) (known : KnownBefore) (row : Option AuthorRow) (m : Chart) (it : Change) (h : Held S) → row ≡ row_known known.author → IsKeptFor g known m it h → IsKeptAs g row known.papers m it h
at_row g known row m it h is kept = (kept.0, (subst (λ (r : Option AuthorRow). IsKnown r m it.author it.game (tables_in g h).seats) (sym is) kept.1.0, kept.1.2))

-- and what `make_with` is told of the author's orders
at_orders : {S : Type 0} (g : Ghosts S) (known : KnownBefore) (none : Bool) (m : Chart) (it : Change) (h : Held S) → none ≡ is_unordered known.author → IsKeptFor g known m it h → IsUnordered none m it.author it.game (tables_in g h).pending
at_orders g known none m it h is kept = subst (λ (b : Bool). IsUnordered b m it.author it.game (tables_in g h).pending) (sym is) kept.1.1

pub returns-in-Ok-clause-makes : goal.returns-in-Ok-clause-makes
returns-in-Ok-clause-makes g c =
    let m = c.args.map.now in
    let it = machine.change c.args.change.now in
    let old = c.args.conn.now in
    let n = c.in_ok-counted.counted.row in
    let rs = c.as_slice.result.now in
    let k = c.in-Ok.ensures.makes in
    let none = c.is_unordered.result in
    let row = at_row g.S.Store c.args.known c.row_known-row.result m it old c.row_known-row.ensures in
    let orders = at_orders g.S.Store c.args.known none m it old c.is_unordered.ensures in
    makes_named g.S.Store (IsKnownBefore c.args.known m it (tables_in g.S.Store old)) (Unit {0}) Error RowFault (changing_row n none rs m it) (changing m it) old c.make_with.new.conn (Ok c.in-Ok.field-0) _ tt
    (λ kept clean. counted_change m (c.readers_are_seats.ensures m) (c.press_is_delivered_one_by_one.ensures m) it (tables_in g.S.Store old) n none rs (are_apart (state g.S.Store old).now kept.0.good) (orders kept)
    (subst (λ (rs : List Reader). Counts n rs m it (tables_in g.S.Store old)) (sym c.as_slice.ensures.value) (c.in_ok-counted.ensures.value (row kept) (k.fair clean))))
    (makes_peeked g.S.Store _ _ _ _ (changing_row n none rs m it) old c.count.new.conn c.make_with.new.conn c.in_ok-counted.counted _ c.in_ok-counted.ensures.peeks k)

pub returns-in-Ok-clause-kept : goal.returns-in-Ok-clause-kept
returns-in-Ok-clause-kept g c kept up =
    let m = c.args.map.now in
    let it = machine.change c.args.change.now in
    let old = c.args.conn.now in
    let new = c.make_with.new.conn in
    let t = tables_in g.S.Store old in
    let made = (returns-in-Ok-clause-makes g c).done kept up in
    let row = at_row g.S.Store c.args.known c.row_known-row.result m it old c.row_known-row.ensures in
    let counts = c.in_ok-counted.ensures.value (row kept) (c.in-Ok.ensures.makes.fair up.0) in
    let later : AreApart (changing m it t) = subst AreApart made.1 (are_apart (state g.S.Store new).now made.0.good) in
    let counted = c.tables_stay_counted.ensures m it t counts.paper kept.0.counted (are_apart (state g.S.Store old).now kept.0.good) later in
    laid_kept g.S.Store new made.0 (subst AreCounted (sym made.1) counted)

pub returns-clause-makes : goal.returns-clause-makes
returns-clause-makes g c =
    let m = c.args.map.now in
    let it = machine.change c.args.change.now in
    let old = c.args.conn.now in
    let n = c.in_ok-counted.counted.row in
    let rs = c.as_slice.result.now in
    let k = c.in-Err.ensures.makes in
    let none = c.is_unordered.result in
    let row = at_row g.S.Store c.args.known c.row_known-row.result m it old c.row_known-row.ensures in
    let orders = at_orders g.S.Store c.args.known none m it old c.is_unordered.ensures in
    makes_named g.S.Store (IsKnownBefore c.args.known m it (tables_in g.S.Store old)) (Unit {0}) Error RowFault (changing_row n none rs m it) (changing m it) old c.make_with.new.conn (Err c.in-Err.error) _ tt
    (λ kept clean. counted_change m (c.readers_are_seats.ensures m) (c.press_is_delivered_one_by_one.ensures m) it (tables_in g.S.Store old) n none rs (are_apart (state g.S.Store old).now kept.0.good) (orders kept)
    (subst (λ (rs : List Reader). Counts n rs m it (tables_in g.S.Store old)) (sym c.as_slice.ensures.value) (c.in_ok-counted.ensures.value (row kept) (k.fair clean))))
    (makes_peeked g.S.Store _ _ _ _ (changing_row n none rs m it) old c.count.new.conn c.make_with.new.conn c.in_ok-counted.counted _ c.in_ok-counted.ensures.peeks k)

pub returns-in-Ok-clause-place : goal.returns-in-Ok-clause-place
returns-in-Ok-clause-place g c kept up =
    c.in_ok-counted.ensures.place (at_row g.S.Store c.args.known c.row_known-row.result c.args.map.now (machine.change c.args.change.now) c.args.conn.now c.row_known-row.ensures kept) (c.in-Ok.ensures.makes.fair up.0)

pub returns-clause-landed : goal.returns-clause-landed
returns-clause-landed g c kept clean =
    λ db may. inr (c.in_ok-counted.ensures.place (at_row g.S.Store c.args.known c.row_known-row.result c.args.map.now (machine.change c.args.change.now) c.args.conn.now c.row_known-row.ensures kept) (c.in-Err.ensures.makes.fair clean))

pub returns-clause-fails : goal.returns-clause-fails
returns-clause-fails g c kept shows clean may =
    let m = c.args.map.now in
    let it = machine.change c.args.change.now in
    let old = c.args.conn.now in
    let none = c.is_unordered.result in
    let row = at_row g.S.Store c.args.known c.row_known-row.result m it old c.row_known-row.ensures kept in
    let orders = at_orders g.S.Store c.args.known none m it old c.is_unordered.ensures kept in
    let mid = c.count.new.conn in
    let t = tables_in g.S.Store old in
    let n = c.in_ok-counted.counted.row in
    let rs = c.as_slice.result.now in
    let honest = c.in-Err.ensures.makes.fair clean in
    let there = peeks_kept g.S.Store {X = Counted} {E = RowFault} old mid c.in_ok-counted.counted c.in_ok-counted.ensures.peeks kept.0 honest in
    let up = peeks_shows g.S.Store {X = Counted} {E = RowFault} old mid c.in_ok-counted.counted c.in_ok-counted.ensures.peeks kept.0 shows honest in
    let counts = subst (λ (rs : List Reader). Counts n rs m it t) (sym c.as_slice.ensures.value) (c.in_ok-counted.ensures.value row honest) in
    let same = counted_change m (c.readers_are_seats.ensures m) (c.press_is_delivered_one_by_one.ensures m) it t n none rs (are_apart (state g.S.Store old).now kept.0.good) orders counts in
    let late = faulted_late (state g.S.Store old) (state g.S.Store mid) (state g.S.Store c.make_with.new.conn) (peeks_counts g.S.Store {X = Counted} {E = RowFault} old mid c.in_ok-counted.counted c.in_ok-counted.ensures.peeks) in
    want_weaker _ _ c.in-Err.error late (c.in-Err.ensures.wants there.0 up clean (subst (λ (u : Tables). AreKeyed (changing_row n none rs m it u)) (sym there.1) (subst AreKeyed (sym same) may.keyed)))

pub returns-clause-blames : goal.returns-clause-blames
returns-clause-blames g c kept shows clean ours =
    let old = c.args.conn.now in
    let mid = c.count.new.conn in
    let honest = c.in-Err.ensures.makes.fair clean in
    let there = peeks_kept g.S.Store {X = Counted} {E = RowFault} old mid c.in_ok-counted.counted c.in_ok-counted.ensures.peeks kept.0 honest in
    let up = peeks_shows g.S.Store {X = Counted} {E = RowFault} old mid c.in_ok-counted.counted c.in_ok-counted.ensures.peeks kept.0 shows honest in
    let late = faulted_late (state g.S.Store old) (state g.S.Store mid) (state g.S.Store c.make_with.new.conn) (peeks_counts g.S.Store {X = Counted} {E = RowFault} old mid c.in_ok-counted.counted c.in_ok-counted.ensures.peeks) in
    blamed_weaker _ _ c.in-Err.error late (c.in-Err.ensures.blames there.0 up clean)
