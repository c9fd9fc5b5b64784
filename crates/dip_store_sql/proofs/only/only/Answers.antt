use Rattle.std.proofs.Common.{◌↔◌, ◌<◌, IsSome, subst}
use Rattle.dip_store_sql.proofs.Found.{popped}
use Rattle.dip_store_sql.proofs.only.only.Goals as goal

pub returns : goal.returns
returns c o is = popped c.args.rows.items _ _ o c.pop.ensures.items (subst (λ n. IsSome c.pop.result ↔ (0 < n)) c.args.rows.ok.0 c.pop.ensures.variant) is
