use Rattle.dip_orders.proofs.PlayLaws.{builds_are_in_vacant_homes, retreats_are_to_vacant_provinces}
use Rattle.dip_orders.proofs.laws.retreats_and_builds_are_to_vacant_provinces.Goals as goal

pub returns-clause-retreats : goal.returns-clause-retreats
returns-clause-retreats c = retreats_are_to_vacant_provinces c.orders_are_lawful.ensures

pub returns-clause-builds : goal.returns-clause-builds
returns-clause-builds c = builds_are_in_vacant_homes c.orders_are_lawful.ensures
