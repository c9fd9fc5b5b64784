use Rattle.dip_store_counts.proofs.Failing.{digest_reads}
use Rattle.dip_store_sql.proofs.RowFaults.{sql_fails}
use Rattle.dip_store_counts.proofs.known.digest_in.Goals as goal

pub returns-in_err-found-clause-fails : goal.returns-in_err-found-clause-fails
returns-in_err-found-clause-fails c shown =
    sql_fails ⊥ ⊥ ⊥ c.in_err-found.field-0.0 c.from_residual.result c.from_residual.ensures.1 (λ none. none)
    (digest_reads c.args.row.now shown c.in_err-found.field-0.0 c.in_err-found.ensures.named c.in_err-found.ensures.kind)
