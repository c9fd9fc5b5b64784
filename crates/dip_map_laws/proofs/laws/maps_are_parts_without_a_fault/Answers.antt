use Rattle.dip_map_laws.proofs.CheckLaws.{passes_exactly}
use Rattle.dip_map_laws.proofs.laws.maps_are_parts_without_a_fault.Goals as goal

pub returns : goal.returns
returns c = passes_exactly
