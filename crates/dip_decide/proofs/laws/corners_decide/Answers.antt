use Rattle.dip_decide_rules.specs.Corners.{rises}
use Rattle.dip_decide_rules.specs.Movement.{rule, mentions}
use Rattle.dip_decide_rules.proofs.CornerLaws.{forced_by_corners, corners_when_forced}
use Rattle.dip_decide_rules.proofs.Rises.{rule_rises}
use Rattle.dip_decide.proofs.laws.corners_decide.Goals as goal

pub returns : goal.returns
returns c s k d b i o = (λ h. forced_by_corners (rule s) k d b (mentions s d) (rises s d) (rule_rises s i d) o h.0 h.1, λ f. corners_when_forced (rule s) k d b (rises s d) f)
