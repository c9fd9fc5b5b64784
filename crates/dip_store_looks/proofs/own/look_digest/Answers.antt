use Rattle.std.proofs.Common.{ap, ◌∙◌, Some}
use Rattle.std.proofs.lemmas.Result.{err_from_is_err_and}
use Rattle.dip_store_tables.specs.Boards.{power_name}
use Rattle.dip_store_sql.specs.Calls.{tables_in}
use Rattle.dip_store_sql.proofs.RowFaults.{outside_weaker}
use Rattle.dip_store_looks.proofs.OwnLemmas.{digest_is}
use Rattle.dip_store_looks.proofs.RowLemmas.{digest_found_readable}
use Rattle.dip_store_looks.proofs.own.look_digest.Goals as goal

pub returns-clause-value : goal.returns-clause-value
returns-clause-value g c kept clean =
    let row = rw (c.in-Some.is, c.power_name.ensures) at (c.in_ok-row.ensures.value kept clean) in
    ap Some c.in_ok-digest.ensures.value
    ∙ digest_is (tables_in g.S.Store c.args.conn.now) c.args.game.now (power_name c.args.map.now c.args.power) c.in-Some.row row

pub returns-in_err-digest-clause-own : goal.returns-in_err-digest-clause-own
returns-in_err-digest-clause-own g c kept shows clean ours =
    let row = rw (c.in-Some.is, c.power_name.ensures) at (c.in_ok-row.ensures.value kept clean) in
    let p = err_from_is_err_and c.from_residual-in_err-digest.result c.from_residual-in_err-digest.ensures.1 in
    rw (p.1, p.2) (outside_weaker ⊥ _ _ (λ none. absurd none)
    (c.in_err-digest.ensures.own (digest_found_readable c.args.map.now (tables_in g.S.Store c.args.conn.now) ours c.args.game.now (power_name c.args.map.now c.args.power) c.in-Some.row row)))
