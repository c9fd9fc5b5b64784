use Rattle.std.proofs.Common.{◌≡◌, ap, option_map, Some, sym, ◌∙◌}
use Rattle.std.specs.List.{find}
use Rattle.std.proofs.lemmas.Result.{IfOk-weaker}
use Rattle.dip_desk_state.specs.Rows as rows
use Rattle.dip_store_sql.specs.Calls.{tables_in}
use Rattle.dip_store_sql.specs.Showing.{is_item}
use Rattle.dip_store_tables.specs.Reading.{item_of}
use Rattle.dip_store_looks.specs.Shown.{shown_item}
use Rattle.dip_store_sql.proofs.RowFaults.{read_of}
use Rattle.dip_store_looks.proofs.PageLemmas.{item_shown, item_there}
use Rattle.dip_store_looks.proofs.RowLemmas.{item_found_readable}
use Rattle.dip_store_looks.proofs.inbox.item_at.Goals as goal

pub returns-clause-value : goal.returns-clause-value
returns-clause-value g c kept clean =
    let boxes = (tables_in g.S.Store c.args.conn.now).boxes in
    let shown = item_shown boxes c.args.game.now c.args.power.now c.args.number c.in-Some.row (rw c.in-Some.is at (c.in_ok-row.ensures.value kept clean)) in
    IfOk-weaker c.item_in.result (λ i. rows.item i.value ≡ item_of (shown_item c.in-Some.row))
    (λ i. Some (rows.item i.value) ≡ option_map item_of (find (is_item c.args.game.now c.args.power.now c.args.number) boxes))
    (λ i is. ap Some is ∙ shown) c.item_in.ensures.value

pub returns-in_default-clause-own : goal.returns-in_default-clause-own
returns-in_default-clause-own g c kept shows clean m ours n counts some low =
    item_there (tables_in g.S.Store c.args.conn.now).boxes c.args.game.now c.args.power.now c.args.number n counts some low
    (sym c.in_default.is ∙ c.in_ok-row.ensures.value kept clean)

pub returns-clause-own : goal.returns-clause-own
returns-clause-own g c kept shows clean m ours n counts some low =
    let row = rw c.in-Some.is at (c.in_ok-row.ensures.value kept clean) in
    read_of _ c.item_in.result (c.item_in.ensures.own (item_found_readable m (tables_in g.S.Store c.args.conn.now) ours c.args.game.now c.args.power.now c.args.number c.in-Some.row row))
