use Rattle.dip_store_tables.proofs.Returns.{board_back}
use Rattle.dip_store_tables.proofs.board_laws.boards_come_back.Goals as goal

pub returns : goal.returns
returns c m ok game b of_map = board_back m ok b of_map game
