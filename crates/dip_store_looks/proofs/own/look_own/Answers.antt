use Rattle.std.proofs.Common.{subst, sym, ap, map, [], Some, ◌∙◌}
use Rattle.std.proofs.lemmas.Result.{err_from_is_err_and}
use Rattle.sqlite.specs.Effect.{Database}
use Rattle.dip_store_tables.specs.Boards.{power_name}
use Rattle.dip_store_tables.specs.Legible.{AreOurs}
use Rattle.dip_desk_state.specs.Rows as rows
use Rattle.dip_store_sql.specs.Calls.{tables_in}
use Rattle.dip_desk_state.specs.Records.{No}
use Rattle.dip_store_sql.specs.Showing.{show_order}
use Rattle.dip_store_sql.specs.Rows.{tables_of}
use Rattle.dip_store_looks.specs.Shown.{IsBeside}
use Rattle.dip_store_sql.proofs.RowFaults.{outside_weaker}
use Rattle.dip_store_sql.proofs.Caused.{faulted_late}
use Rattle.sqlite.specs.Held.{state}
use Rattle.dip_store_looks.proofs.OwnLemmas.{idle_beside, own_is}
use Rattle.dip_store_looks.proofs.RowLemmas.{orders_readable, seat_found_readable}
use Rattle.dip_store_looks.proofs.own.look_own.Goals as goal

pub returns-clause-value : goal.returns-clause-value
returns-clause-value g c kept clean quiet =
    let a = c.in_ok-row.ensures.selects in
    let clean1 = c.in_ok-beside.ensures.selects.fair clean in
    let shows1 = a.ok kept clean1 in
    let kept1 = a.kept kept shows1 in
    let same1 = a.same kept shows1 in
    let m = c.args.map.now in
    let name = c.args.game.now in
    let row = rw (c.in-Some.is, c.power_name-name.ensures) at (c.in_ok-row.ensures.value kept clean1) in
    let there = rw c.power_name-name.ensures at (c.in_ok-beside.ensures.value kept1 clean) in
    let beside = subst (λ (d : Database). IsBeside m (tables_of d.trees) name (power_name m c.args.power) c.in_ok-beside.beside) same1 there in
    ap Some c.in_ok-own.ensures.value
    ∙ own_is m c.facts.ensures (tables_in g.S.Store c.args.conn.now) name c.args.power c.in-Some.row (rows.vote c.in_ok-beside.beside.vote) c.in_ok-beside.beside.orders.items c.requires row beside.vote beside.orders

pub returns-in_err-own-clause-own : goal.returns-in_err-own-clause-own
returns-in_err-own-clause-own g c kept shows clean ours =
    let a = c.in_ok-row.ensures.selects in
    let clean1 = c.in_ok-beside.ensures.selects.fair clean in
    let shows1 = a.ok kept clean1 in
    let kept1 = a.kept kept shows1 in
    let same1 = a.same kept shows1 in
    let m = c.args.map.now in
    let name = c.args.game.now in
    let row = rw (c.in-Some.is, c.power_name-name.ensures) at (c.in_ok-row.ensures.value kept clean1) in
    let there = rw c.power_name-name.ensures at (c.in_ok-beside.ensures.value kept1 clean) in
    let beside = subst (λ (d : Database). IsBeside m (tables_of d.trees) name (power_name m c.args.power) c.in_ok-beside.beside) same1 there in
    let t = tables_in g.S.Store c.args.conn.now in
    let p = err_from_is_err_and c.from_residual-in_err-own.result c.from_residual-in_err-own.ensures.1 in
    rw (p.1, p.2) (outside_weaker ⊥ _ _ (λ none. absurd none) (c.in_err-own.ensures.own (seat_found_readable m t ours name (power_name m c.args.power) c.in-Some.row row) (orders_readable m t ours name (power_name m c.args.power) c.in_ok-beside.beside.orders.items beside.orders)))

pub returns-in_err-beside-clause-own : goal.returns-in_err-beside-clause-own
returns-in_err-beside-clause-own g c kept shows clean ours =
    let a = c.in_ok-row.ensures.selects in
    let shows1 = a.ok kept (c.in_err-beside.ensures.selects.fair clean) in
    let late = faulted_late (state g.S.Store c.args.conn.now) (state g.S.Store c.find_seat.new.conn) (state g.S.Store c.look_beside.new.conn) a.counts in
    let m = c.args.map.now in
    let same1 = a.same kept shows1 in
    let p = err_from_is_err_and c.from_residual-in_err-beside.result c.from_residual-in_err-beside.ensures.1 in
    rw (p.1, p.2) (outside_weaker _ _ _ late (c.in_err-beside.ensures.own (a.kept kept shows1) shows1 clean (subst (λ (d : Database). AreOurs m (tables_of d.trees)) (sym same1) ours)))

pub returns-in_err-alone-clause-own : goal.returns-in_err-alone-clause-own
returns-in_err-alone-clause-own g c kept shows clean ours =
    let m = c.args.map.now in
    let name = c.args.game.now in
    let row = rw (c.in-Some.is, c.power_name-name.ensures) at (c.in_ok-row.ensures.value kept clean) in
    let t = tables_in g.S.Store c.args.conn.now in
    let p = err_from_is_err_and c.from_residual-in_err-alone.result c.from_residual-in_err-alone.ensures.1 in
    rw (p.1, p.2) (outside_weaker ⊥ _ _ (λ none. absurd none) (c.in_err-alone.ensures.own (seat_found_readable m t ours name (power_name m c.args.power) c.in-Some.row row)))

pub returns-then-idle-clause-value : goal.returns-then-idle-clause-value
returns-then-idle-clause-value g c kept clean quiet =
    let m = c.args.map.now in
    let name = c.args.game.now in
    let t = tables_in g.S.Store c.args.conn.now in
    let row = rw (c.in-Some.is, c.power_name-name.ensures) at (c.in_ok-row.ensures.value kept clean) in
    let beside = idle_beside m t name c.args.power c.in-Some.row row (quiet c.if-idle.true) in
    ap Some c.in_ok-alone.ensures.value
    ∙ own_is m c.facts.ensures t name c.args.power c.in-Some.row No [] c.requires row beside.vote (ap (map show_order) beside.orders)
