use Rattle.std.proofs.Common.{sym}
use Rattle.dip_http_messages.proofs.TargetLemmas.{query_found, query_missing}
use Rattle.dip_http_messages.proofs.target.before_query.Goals as goal

pub returns-in-Some : goal.returns-in-Some
returns-in-Some c = query_found c.args.target.now c.in-Some.end (sym c.in-Some.ensures)

pub returns-in-None : goal.returns-in-None
returns-in-None c = query_missing c.args.target.now (sym c.in-None.ensures)
