use Rattle.dip_orders.proofs.PlayLaws.{none_retreats_to_its_attacker}
use Rattle.dip_orders.proofs.laws.none_retreats_to_its_attacker.Goals as goal

pub returns : goal.returns
returns c = none_retreats_to_its_attacker c.orders_are_lawful.ensures
