use Rattle.dip_decide_rules.specs.Movement.{rule, mentions, at_first}
use Rattle.dip_decide_rules.proofs.OneAnswer.{one_answer}
use Rattle.dip_decide.proofs.laws.one_answer.Goals as goal

pub returns-clause-values : goal.returns-clause-values
returns-clause-values c s one two f g e h = (one_answer (rule s) (mentions s) f g one two (at_first s) e h).values

pub returns-clause-broken : goal.returns-clause-broken
returns-clause-broken c s one two f g e h = (one_answer (rule s) (mentions s) f g one two (at_first s) e h).broken
