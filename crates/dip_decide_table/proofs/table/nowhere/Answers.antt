use Rattle.std.proofs.Common.{rules}
use Rattle.dip_decide_table.proofs.table.nowhere.Goals as goal

pub returns : goal.returns
returns c = c.in_ok-column.ensures.items_if_clones_equal (λ y h. search rules)
