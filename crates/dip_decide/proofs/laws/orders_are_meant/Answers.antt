use Rattle.std.proofs.Common.{ap}
use Rattle.std.specs.Prelude.{Bool}
use Rattle.dip_decide_rules.specs.Meaning.{meant}
use Rattle.dip_decide_rules.proofs.Meanings.{meant_are_orders}
use Rattle.dip_decide.proofs.laws.orders_are_meant.Goals as goal

pub returns-clause-orders : goal.returns-clause-orders
returns-clause-orders c m b orders o = meant_are_orders m b orders o

pub returns-clause-plainly : goal.returns-clause-plainly
returns-clause-plainly c m b orders off = ap (λ (i : Bool). meant m i orders) off
