use Rattle.dip_turn_papers.proofs.ToldLaws.{no_steps}
use Rattle.dip_turn_papers.proofs.laws.papers_hold_no_steps.Goals as goal

pub returns : goal.returns
returns c = no_steps
