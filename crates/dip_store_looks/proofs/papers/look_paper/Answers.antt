use Rattle.std.proofs.lemmas.Result.{err_from_is_err_and}
use Rattle.dip_store_sql.specs.Calls.{tables_in}
use Rattle.dip_store_sql.proofs.Caused.{caused_weaker}
use Rattle.dip_store_looks.proofs.RowLemmas.{paper_readable}
use Rattle.dip_store_looks.proofs.papers.look_paper.Goals as goal

pub returns-in_err-body-clause-own : goal.returns-in_err-body-clause-own
returns-in_err-body-clause-own g c kept shows clean m ours =
    let row = rw c.in-Some.is at (c.in_ok-row.ensures.value kept clean) in
    let readable = paper_readable m (tables_in g.S.Store c.args.conn.now) ours c.args.game.now c.args.number c.in-Some.row row in
    let p = err_from_is_err_and c.from_residual-in_err-body.result c.from_residual-in_err-body.ensures.1 in
    rw (p.1, p.2) (caused_weaker ⊥ _ _ (λ none. absurd none) (c.in_err-body.ensures.own readable))
