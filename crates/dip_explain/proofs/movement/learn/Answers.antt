use Rattle.std.proofs.Common.{ap, ◌∙◌}
use Rattle.dip_decide_rules.specs.Given.{known_of}
use Rattle.dip_explain.specs.Movement.{given_to}
use Rattle.dip_explain.proofs.movement.learn.Goals as goal

pub returns-in-None : goal.returns-in-None
returns-in-None c = c.give.ensures ∙ ap (given_to (known_of c.args.known.now) c.args.d.now c.args.value) c.in-None.ensures
