use Rattle.dip_check_laws.proofs.RunLemmas.{fresh_games, fresh_lawful}
use Rattle.dip_check_laws.proofs.laws.fresh_desks_have_no_wrong_game.Goals as goal

pub returns : goal.returns
returns c m master = (fresh_games m master, fresh_lawful m master)
