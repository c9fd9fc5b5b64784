use Rattle.dip_orders_placed.proofs.StandingLaws.{standing_units, standing_in_force, standing_kept}
use Rattle.dip_orders.proofs.laws.each_unit_has_one_order.Goals as goal

pub returns-clause-units : goal.returns-clause-units
returns-clause-units c = standing_units

pub returns-clause-in_force : goal.returns-clause-in_force
returns-clause-in_force c = standing_in_force

pub returns-clause-kept : goal.returns-clause-kept
returns-clause-kept c = standing_kept
