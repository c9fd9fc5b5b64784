use Rattle.std.proofs.Common.{sym, ◌∙◌, Some, None}
use Rattle.dip_decide_rules.proofs.Mentioners.{one_into}
use Rattle.dip_decide_rules.proofs.mentioning.supports_into.Goals as goal

pub returns-in-Some : goal.returns-in-Some
returns-in-Some c = c.goes.ensures ∙ one_into c.args.table.now c.requires.situation c.args.h c.args.q (Some c.in-Some.w) (sym c.backed.ensures ∙ c.in-Some.is)

pub returns-in-None : goal.returns-in-None
returns-in-None c = one_into c.args.table.now c.requires.situation c.args.h c.args.q None (sym c.backed.ensures ∙ c.in-None.is)
