use Rattle.std.proofs.Common.{◌≡◌, take, true}
use Rattle.dip_decide_rules.specs.Deciding.{give}
use Rattle.dip_decide_rules.specs.Given.{known_of}
use Rattle.dip_decide_rules.specs.Steps.{moves_of}
use Rattle.dip_decide_rules.proofs.values.Values.give_moves.Given as goal

abbrev pub invariant-loop-p : goal.invariant-loop-p
invariant-loop-p l = known_of l.self ≡ give (known_of l.fn.self) (moves_of (take l.p-index l.units)) true
