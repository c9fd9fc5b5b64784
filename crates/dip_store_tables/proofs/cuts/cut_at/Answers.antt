use Rattle.dip_store_tables.proofs.Cutting.{split_is}
use Rattle.dip_store_tables.proofs.cuts.cut_at.Goals as goal

pub returns-clause-some : goal.returns-clause-some
returns-clause-some c = (split_is c.args.mark c.args.text.now c.split_once.result c.split_once.ensures.cases c.requires).0

pub returns-clause-none : goal.returns-clause-none
returns-clause-none c = (split_is c.args.mark c.args.text.now c.split_once.result c.split_once.ensures.cases c.requires).1
