use Rattle.dip_decide_rules.specs.Meaning.{meant_on}
use Rattle.dip_explain_laws.proofs.laws.boards_have_such_situations.Goals as goal

pub returns : goal.returns
returns c m b orders o = c.boards_are_situations.ensures m b (meant_on m b orders) (c.orders_are_meant.ensures.orders m b orders o)
