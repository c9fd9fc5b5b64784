use Rattle.std.proofs.Common.{◌∙◌}
use Rattle.dip_decide_rules.specs.Corners.{values}
use Rattle.dip_decide_rules.proofs.Among.{support_among}
use Rattle.dip_decide_rules.proofs.corners.Corner.support.Goals as goal

pub returns : goal.returns
returns c = c.given_of.ensures ∙ support_among c.args.self.now.table.now (values c.args.self.now) c.args.p _ c.helpers_of.ensures
