use Rattle.dip_map_laws.proofs.SpelledLaws.{states_what_it_spells}
use Rattle.dip_map_laws.proofs.laws.maps_are_spelled_by_their_files.Goals as goal

pub returns : goal.returns
returns c = states_what_it_spells
