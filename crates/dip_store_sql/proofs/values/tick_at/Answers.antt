use Rattle.dip_store_sql.proofs.Typed.{reads}
use Rattle.dip_store_sql.proofs.values.tick_at.Goals as goal

pub returns-clause-own : goal.returns-clause-own
returns-clause-own c has = reads c.get.result c.args.row.now c.args.at _ c.get.ensures.named c.get.ensures.kind has.there (has.number, has.is)
