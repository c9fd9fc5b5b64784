use Rattle.dip_orders.proofs.PlayLaws.{builds_have_room, no_more_have_room, removals_are_surplus}
use Rattle.dip_orders.proofs.laws.allowances_have_room.Goals as goal

pub returns-clause-builds : goal.returns-clause-builds
returns-clause-builds c = builds_have_room

pub returns-clause-most : goal.returns-clause-most
returns-clause-most c = no_more_have_room

pub returns-clause-removals : goal.returns-clause-removals
returns-clause-removals c = removals_are_surplus
