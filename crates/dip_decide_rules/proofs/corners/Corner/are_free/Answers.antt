use Rattle.std.proofs.Common.{◌∙◌}
use Rattle.dip_decide_rules.specs.Corners.{values}
use Rattle.dip_decide_rules.proofs.Among.{beats_among}
use Rattle.dip_decide_rules.proofs.corners.Corner.are_free.Goals as goal

pub returns : goal.returns
returns c = c.beats_all.ensures ∙ beats_among c.args.self.now.table.now (values c.args.self.now) c.args.p c.args.q _ c.movers_to.ensures
