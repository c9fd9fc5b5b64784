use Rattle.dip_orders.proofs.PlayLaws.{only_movement_is_in_force, orders_are_of_their_phase}
use Rattle.dip_orders.proofs.laws.orders_are_of_their_phase.Goals as goal

pub returns-clause-given : goal.returns-clause-given
returns-clause-given c = orders_are_of_their_phase c.orders_are_lawful.ensures

pub returns-clause-in_force : goal.returns-clause-in_force
returns-clause-in_force c = only_movement_is_in_force
