use Rattle.std.proofs.Common.{◌∙◌, sym}
use Rattle.dip_map.specs.Charts.{provs}
use Rattle.dip_decide.proofs.Unbroken.{none_broken}
use Rattle.dip_decide.proofs.resolving.broken_by.Goals as goal

pub returns-then-not-has_knot : goal.returns-then-not-has_knot
returns-then-not-has_knot c = c.new.ensures.items ∙ sym (none_broken c.args.steps.now (provs c.args.map.now) (sym c.if-not-has_knot.ensures))
