use Rattle.std.proofs.Common.{◌∙◌}
use Rattle.dip_decide_rules.specs.Corners.{values}
use Rattle.dip_decide_rules.proofs.Among.{support_against_among}
use Rattle.dip_decide_rules.proofs.corners.Corner.support_against.Goals as goal

pub returns : goal.returns
returns c = c.given_of_others.ensures ∙ support_against_among c.args.self.now.table.now (values c.args.self.now) c.args.p c.args.q _ c.helpers_of.ensures
