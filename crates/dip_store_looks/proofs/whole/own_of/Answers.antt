use Rattle.dip_store_sql.specs.Calls.{tables_in}
use Rattle.dip_store_sql.proofs.RowFaults.{read_of, told_on}
use Rattle.dip_store_looks.proofs.RowLemmas.{orders_readable}
use Rattle.dip_store_looks.proofs.whole.own_of.Goals as goal

pub returns-clause-own : goal.returns-clause-own
returns-clause-own g c kept shows clean ours row =
    let beside = c.in_ok-beside.ensures.value kept clean in
    let orders = orders_readable c.args.map.now (tables_in g.S.Store c.args.conn.now) ours c.args.game.now c.as_str-2.result.now c.in_ok-beside.beside.orders.items beside.orders in
    read_of _ c.own_in.result (c.own_in.ensures.own row.seat orders)

pub returns-in_err-name-clause-own : goal.returns-in_err-name-clause-own
returns-in_err-name-clause-own g c kept shows clean ours row =
    told_on ⊥ _ c.in_err-name.field-0.0 c.from_residual.result c.from_residual.ensures.1 (λ none. absurd none) (c.in_err-name.ensures.own row.name)
