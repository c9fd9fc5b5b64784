use Rattle.dip_map.proofs.BoardLaws.{opening_law}
use Rattle.dip_map.proofs.board_laws.openings_are_of_their_map.Goals as goal

pub returns : goal.returns
returns c = opening_law
