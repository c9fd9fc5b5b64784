use Rattle.std.proofs.Common.{◌≡◌, ◌==◌, ◌++◌, not}
use Rattle.std.specs.Prelude.{filter}
use Rattle.dip_desk_machine.specs.Pressing as p
use Rattle.dip_desk_machine.proofs.pressing.other_powers.Given as goal

abbrev pub invariant-loop-other : goal.invariant-loop-other
invariant-loop-other l = l.others.items ++ filter (λ q. not (q == l.power)) l.other-iterator ≡ p.other_powers l.map l.power
