use Rattle.std.proofs.Common.{rules, ◌<◌, List, All, sym, subst, ◌∙◌}
use Rattle.std.specs.List.{AllByRecursion}
use Rattle.std.proofs.lemmas.List.Elements.{All-from_recursion}
use Rattle.sqlite.specs.Order.{Row}
use Rattle.dip_desk_state.specs.Bounds.{most_items}
use Rattle.dip_store_tables.specs.Tables.{is_seat_in}
use Rattle.dip_store_sql.specs.Calls.{tables_in}
use Rattle.dip_store_counts.specs.declared.readers.Reader.{Reader}
use Rattle.dip_store_counts.specs.Failing.{IsListed}
use Rattle.dip_store_counts.proofs.Failing.{rows_listed}
use Rattle.dip_store_sql.proofs.RowFaults.{same_fails}
use Rattle.dip_store_counts.proofs.Listed.{readers_found}
use Rattle.dip_store_counts.proofs.Placed.{readers_room}
use Rattle.dip_store_counts.proofs.readers.find_readers.Goals as goal

pub returns-clause-value : goal.returns-clause-value
returns-clause-value g c kept clean =
    readers_found c.args.map.now c.args.game.now c.args.powers.now (tables_in g.S.Store c.args.conn.now).seats c.as_slice.result.now c.in_ok-readers_in.field-0.items c.readers_among-readers.result.items
    (c.as_slice.ensures.value ∙ c.in_ok-rows.ensures.value kept clean) c.in_ok-readers_in.ensures.shown c.in_ok-readers_in.ensures.names c.readers_among-readers.ensures

pub returns-in_err-readers_in-clause-fails : goal.returns-in_err-readers_in-clause-fails
returns-in_err-readers_in-clause-fails g c kept shows clean ours =
    let m = c.args.map.now in
    let rows = subst (λ (rows : List Row). AllByRecursion (IsListed m) rows) (sym (c.as_slice.ensures.value ∙ c.in_ok-rows.ensures.value kept clean))
    (rows_listed m (is_seat_in c.args.game.now) (tables_in g.S.Store c.args.conn.now).seats ours.coded.seats ours.legible.seats) in
    same_fails ⊥ _ ⊥ _ c.in_err-readers_in.field-0.0 c.from_residual-in_err-readers_in.result c.from_residual-in_err-readers_in.ensures.1 (λ none. absurd none) (λ none. absurd none) (c.in_err-readers_in.ensures.fails ours.map rows)

pub returns-then-not-have_room-clause-fails : goal.returns-then-not-have_room-clause-fails
returns-then-not-have_room-clause-fails g c kept shows clean ours = λ room.
    let m = c.args.map.now in
    let are = readers_found m c.args.game.now c.args.powers.now (tables_in g.S.Store c.args.conn.now).seats c.as_slice.result.now c.in_ok-readers_in.field-0.items c.readers_among-readers.result.items
    (c.as_slice.ensures.value ∙ c.in_ok-rows.ensures.value kept clean) c.in_ok-readers_in.ensures.shown c.in_ok-readers_in.ensures.names c.readers_among-readers.ensures in
    let all = All-from_recursion _ _ (readers_room m c.args.game.now _ _ are room) in
    let yes = c.have_room.ensures.full (subst (λ (rs : List Reader). All (λ r. r.items < most_items) rs) (sym c.as_slice-2.ensures.value) all) in
    search (rules, yes)
