use Rattle.std.proofs.Common.{ap, sym, ◌∙◌}
use Rattle.sqlite.specs.Order.{bytes}
use Rattle.dip_store_counts.proofs.Failing.{power_reads}
use Rattle.dip_store_sql.proofs.RowFaults.{sql_fails}
use Rattle.dip_store_counts.proofs.Listed.{power_named}
use Rattle.dip_store_counts.proofs.readers.power_of.Goals as goal

pub returns-in-Some-clause-name : goal.returns-in-Some-clause-name
returns-in-Some-clause-name c =
    power_named c.args.map.now _ c.in-Some.power (sym c.power.ensures ∙ c.in-Some.is)
    ∙ c.as_str.ensures.value ∙ ap bytes (sym c.in_ok-name.ensures.ok.1)

pub returns-in_err-name-clause-fails : goal.returns-in_err-name-clause-fails
returns-in_err-name-clause-fails c ok listed =
    sql_fails ⊥ ⊥ ⊥ c.in_err-name.field-0.0 c.from_residual.result c.from_residual.ensures.1 (λ none. none)
    (power_reads c.args.map.now ok c.args.row.now listed c.in_err-name.field-0.0 c.in_err-name.ensures.named c.in_err-name.ensures.kind)
