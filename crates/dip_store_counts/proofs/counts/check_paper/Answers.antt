use Rattle.std.proofs.Common.{ap, sym, subst}
use Rattle.std.proofs.lemmas.Result.{on_ok_weaker}
use Rattle.dip_desk_state.specs.ChangeRows as machine
use Rattle.dip_desk_state.specs.State.{Effect}
use Rattle.dip_store_tables.specs.Counting.{CountsOn}
use Rattle.dip_store_sql.specs.Calls.{tables_in}
use Rattle.dip_store_sql.proofs.RowFaults.{result_fails}
use Rattle.dip_store_counts.proofs.counts.check_paper.Goals as goal

pub returns-in-Publishes-clause-value : goal.returns-in-Publishes-clause-value
returns-in-Publishes-clause-value g c kept known clean =
    let games = (tables_in g.S.Store c.args.conn.now).games in
    on_ok_weaker c.check_number.result
    (λ all. subst (λ (e : Effect). CountsOn c.args.game.now e games) (sym (ap (λ e. machine.effect e) c.in-Publishes.is)) all) (c.check_number.ensures.value kept known clean)

pub returns-in-Publishes-clause-fails : goal.returns-in-Publishes-clause-fails
returns-in-Publishes-clause-fails g c kept known shows clean narrow =
    let games = (tables_in g.S.Store c.args.conn.now).games in
    result_fails _ _ _ _ c.check_number.result (λ fault. fault)
    (λ off counts. off (subst (λ (e : Effect). CountsOn c.args.game.now e games) (ap (λ e. machine.effect e) c.in-Publishes.is) counts))
    (c.check_number.ensures.fails kept known shows clean narrow)
