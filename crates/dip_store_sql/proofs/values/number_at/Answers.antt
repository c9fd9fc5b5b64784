use Rattle.dip_store_sql.proofs.Typed.{read_unblamed, reads}
use Rattle.dip_store_sql.proofs.values.number_at.Goals as goal

pub returns-clause-own : goal.returns-clause-own
returns-clause-own c has = reads c.get.result c.args.row.now c.args.at _ c.get.ensures.named c.get.ensures.kind has.there (has.number, has.is, has.low)

pub returns-clause-blames : goal.returns-clause-blames
returns-clause-blames c = read_unblamed c.get.result c.args.at _ c.get.ensures.named
