use Rattle.dip_decide.specs.Deciding.{is_broken}
use Rattle.dip_decide.specs.Meaning.{situation_on}
use Rattle.dip_decide.specs.Movement.{at_first, mentions, rule}
use Rattle.dip_decide_laws.proofs.EquationLemmas.{broken_paths}
use Rattle.dip_decide_laws.proofs.laws.explained_is_decided.Goals as goal

pub returns : goal.returns
returns c m b orders steps a o e = record {
  standing = c.orders_are_meant.ensures.orders m b orders o;
  broken = is_broken steps;
  paths_alone = broken_paths (rule (situation_on m b orders)) (mentions (situation_on m b orders)) a steps (at_first (situation_on m b orders)) e;
  equations = c.explained_is_lawful.ensures.equations (situation_on m b orders) steps a e;
}
