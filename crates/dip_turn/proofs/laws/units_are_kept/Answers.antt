use Rattle.dip_turn.proofs.KeptLemmas.{retreats_lose_nobody_else, winters_add_builds_alone, winters_remove_alone}
use Rattle.dip_turn.proofs.laws.units_are_kept.Goals as goal

pub returns : goal.returns
returns c = record { retreats = retreats_lose_nobody_else; winters = winters_add_builds_alone; removed = winters_remove_alone }
