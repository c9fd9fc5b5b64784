use Rattle.std.proofs.Common.{◌∙◌}
use Rattle.dip_decide_rules.specs.Corners.{values}
use Rattle.dip_decide_rules.proofs.Among.{enters_among}
use Rattle.dip_decide_rules.proofs.corners.Corner.is_entered.Goals as goal

pub returns : goal.returns
returns c = c.one_enters.ensures ∙ enters_among c.args.self.now.table.now (values c.args.self.now) c.args.x _ c.movers_to.ensures
