use Rattle.std.proofs.Common.{arith, ◌<◌, ◌^◌, length, refl, sym, ap, subst, ◌∙◌}
use Rattle.std.specs.List.{find}
use Rattle.dip_store_tables.specs.Tables.{GameRow, is_named}
use Rattle.sqlite.specs.Order.{Row, column}
use Rattle.dip_store_sql.specs.Calls.{tables_in}
use Rattle.dip_store_sql.specs.Showing.{show_game}
use Rattle.dip_store_counts.proofs.Found.{none_shown, one_shown}
use Rattle.dip_store_counts.proofs.Failing.{count_reads, shown_found}
use Rattle.dip_store_sql.proofs.RowFaults.{sql_fails}
use Rattle.dip_store_counts.proofs.papers.find_papers.Goals as goal

pub returns-in_default-clause-value : goal.returns-in_default-clause-value
returns-in_default-clause-value g c kept clean =
    none_shown 6 show_game (λ r. r.papers) (λ r. refl) (find (is_named c.args.game.now) (tables_in g.S.Store c.args.conn.now).games) (sym c.in_default.is ∙ c.in_ok-row.ensures.value kept clean)

pub returns-clause-value : goal.returns-clause-value
returns-clause-value g c kept clean =
    one_shown 6 show_game (λ r. r.papers) (λ r. refl) (find (is_named c.args.game.now) (tables_in g.S.Store c.args.conn.now).games) _ c.in_ok-count.count
    (sym c.in-Some.is ∙ c.in_ok-row.ensures.value kept clean) c.in_ok-count.ensures.ok.1

pub returns-in_err-count-clause-fails : goal.returns-in_err-count-clause-fails
returns-in_err-count-clause-fails g c kept shows clean narrow =
    let it = shown_found (λ (x : GameRow). x.papers < 2 ^ 32) (is_named c.args.game.now) show_game (tables_in g.S.Store c.args.conn.now).games _ (sym c.in-Some.is ∙ c.in_ok-row.ensures.value kept clean) narrow in
    sql_fails ⊥ _ _ c.in_err-count.field-0.0 c.from_residual-in_err-count.result c.from_residual-in_err-count.ensures.1 (λ none. absurd none)
    (count_reads 6 _ it.one.papers c.in_err-count.field-0.0 c.in_err-count.ensures.named c.in_err-count.ensures.kind (subst (λ (r : Row). 6 < length r) (sym it.shown) (omega arith)) (ap (λ (r : Row). column r 6) it.shown) it.holds)
