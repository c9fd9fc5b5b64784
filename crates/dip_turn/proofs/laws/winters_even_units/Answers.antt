use Rattle.dip_turn.proofs.WinterLemmas.{builds_stand, winters_even_units}
use Rattle.dip_turn.proofs.laws.winters_even_units.Goals as goal

pub returns : goal.returns
returns c = record { counts = winters_even_units c.orders_are_lawful.ensures; builds = builds_stand }
