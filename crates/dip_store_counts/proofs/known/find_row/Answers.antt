use Rattle.std.proofs.Common.{sym, ◌∙◌}
use Rattle.std.specs.List.{find}
use Rattle.dip_store_tables.specs.Tables.{is_seat}
use Rattle.dip_store_sql.specs.Calls.{tables_in}
use Rattle.dip_store_sql.specs.Showing.{show_seat}
use Rattle.dip_store_counts.specs.Failing.{IsSeatKept}
use Rattle.dip_store_counts.proofs.Failing.{shown_found}
use Rattle.dip_store_sql.proofs.RowFaults.{same_fails}
use Rattle.dip_store_counts.proofs.Knowing.{none_found, some_found}
use Rattle.dip_store_counts.proofs.known.find_row.Goals as goal

pub returns-in_default-clause-value : goal.returns-in_default-clause-value
returns-in_default-clause-value g c kept clean =
    none_found (find (is_seat c.args.game.now c.args.power.now) (tables_in g.S.Store c.args.conn.now).seats) (sym c.in_default.is ∙ c.in_ok-row.ensures.value kept clean)

pub returns-clause-value : goal.returns-clause-value
returns-clause-value g c kept clean =
    some_found _ c.in_ok-found.found (find (is_seat c.args.game.now c.args.power.now) (tables_in g.S.Store c.args.conn.now).seats) (sym c.in-Some.is ∙ c.in_ok-row.ensures.value kept clean) c.in_ok-found.ensures.shown

pub returns-in_err-found-clause-fails : goal.returns-in_err-found-clause-fails
returns-in_err-found-clause-fails g c kept shows clean all =
    let it = shown_found IsSeatKept (is_seat c.args.game.now c.args.power.now) show_seat (tables_in g.S.Store c.args.conn.now).seats _ (sym c.in-Some.is ∙ c.in_ok-row.ensures.value kept clean) all in
    same_fails ⊥ _ ⊥ _ c.in_err-found.field-0.0 c.from_residual-in_err-found.result c.from_residual-in_err-found.ensures.1 (λ none. absurd none) (λ none. none)
    (c.in_err-found.ensures.fails (record { seat = it.one; shown = it.shown; digest = it.holds.0.digest; sent = it.holds.1.1; items = it.holds.1.2 }))
