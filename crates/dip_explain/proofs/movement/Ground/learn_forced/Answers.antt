use Rattle.std.proofs.Common.{◌∙◌, ap, Bool}
use Rattle.dip_decide_rules.specs.Given.{known_of}
use Rattle.dip_explain.specs.Movement.{given_to}
use Rattle.dip_explain.proofs.movement.Ground.learn_forced.Goals as goal

pub returns : goal.returns
returns c = c.learn.ensures ∙ ap (λ (v : Bool). given_to (known_of c.args.known.now) c.args.d.now v (known_of c.args.known.now c.args.d.now)) c.value_in-value.ensures
