use Rattle.std.proofs.Common.{◌≡◌, drop}
use Rattle.std.specs.Prelude.{true}
use Rattle.dip_decide_rules.specs.Given.{known_of}
use Rattle.dip_decide_rules.specs.Steps.{moves_of}
use Rattle.dip_explain.specs.Movement.{learned}
use Rattle.dip_explain.proofs.movement.learn_moves.Given as goal

abbrev pub invariant-loop-p : goal.invariant-loop-p
invariant-loop-p l = learned (known_of l.known) (moves_of (drop l.p-index l.units)) true ≡ learned (known_of l.initial.known) (moves_of l.units) true
