use Rattle.std.proofs.Common.{◌∙◌}
use Rattle.dip_decide_table.specs.Placed.{entry}
use Rattle.dip_decide_table.proofs.Looks.{backs_some}
use Rattle.dip_decide_table.proofs.placed.Table.is_support.Goals as goal

pub returns : goal.returns
returns c = let t = c.args.self.now in (rw c.backed.ensures at c.is_some.ensures) ∙ backs_some t (entry t.rows.items c.args.h)
