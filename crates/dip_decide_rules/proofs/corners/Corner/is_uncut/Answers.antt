use Rattle.std.proofs.Common.{◌∙◌}
use Rattle.dip_decide_rules.specs.Corners.{values}
use Rattle.dip_decide_rules.proofs.Among.{cuts_among}
use Rattle.dip_decide_rules.proofs.corners.Corner.is_uncut.Goals as goal

pub returns : goal.returns
returns c = c.none_cuts.ensures ∙ cuts_among c.args.self.now.table.now (values c.args.self.now) c.args.h _ c.movers_to.ensures
