use Rattle.std.proofs.Common.{◌≡◌, length}
use Rattle.dip_desk_machine.specs.Pressing as p
use Rattle.dip_desk_machine.proofs.pressing.are_distinct.Given as goal

abbrev pub invariant-loop-first : goal.invariant-loop-first
invariant-loop-first l = p.are_distinct l.rest ≡ p.are_distinct l.powers

abbrev pub decreases-loop-first : goal.decreases-loop-first
decreases-loop-first l = length l.rest
