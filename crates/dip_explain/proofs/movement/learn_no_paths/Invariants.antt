use Rattle.std.proofs.Common.{◌≡◌, drop}
use Rattle.std.specs.Prelude.{false}
use Rattle.dip_decide_rules.specs.Given.{known_of}
use Rattle.dip_decide_rules.specs.Steps.{paths_of}
use Rattle.dip_explain.specs.Movement.{learned}
use Rattle.dip_explain.proofs.movement.learn_no_paths.Given as goal

abbrev pub invariant-loop-p : goal.invariant-loop-p
invariant-loop-p l = learned (known_of l.known) (paths_of (drop l.p-index l.units)) false ≡ learned (known_of l.initial.known) (paths_of l.units) false
