use Rattle.std.proofs.Common.{codes}
use Rattle.dip_store_tables.proofs.Cutting.{suffix_is}
use Rattle.dip_store_tables.proofs.last_letters.before_end.Goals as goal

pub returns-clause-some : goal.returns-clause-some
returns-clause-some c = (suffix_is (codes "END\n") c.args.text.now c.strip_suffix.result c.strip_suffix.ensures.cases).0

pub returns-clause-none : goal.returns-clause-none
returns-clause-none c = (suffix_is (codes "END\n") c.args.text.now c.strip_suffix.result c.strip_suffix.ensures.cases).1
