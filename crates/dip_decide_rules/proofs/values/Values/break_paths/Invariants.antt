use Rattle.std.proofs.Common.{◌≡◌, take, false}
use Rattle.dip_decide_rules.specs.Deciding.{give}
use Rattle.dip_decide_rules.specs.Given.{known_of}
use Rattle.dip_decide_rules.specs.Steps.{paths_of}
use Rattle.dip_decide_rules.proofs.values.Values.break_paths.Given as goal

abbrev pub invariant-loop-p : goal.invariant-loop-p
invariant-loop-p l = known_of l.self ≡ give (known_of l.fn.self) (paths_of (take l.p-index l.units)) false
