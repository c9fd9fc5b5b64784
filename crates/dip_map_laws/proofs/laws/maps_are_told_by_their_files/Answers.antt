use Rattle.dip_map_laws.proofs.TellingLaws.{states_what_it_tells}
use Rattle.dip_map_laws.proofs.laws.maps_are_told_by_their_files.Goals as goal

pub returns : goal.returns
returns c = states_what_it_tells
