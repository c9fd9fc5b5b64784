use Rattle.dip_decide_laws.proofs.PathlessLemmas.{pathless_law}
use Rattle.dip_decide_laws.proofs.laws.pathless_changes_nothing.Goals as goal

pub returns : goal.returns
returns c m b orders a o d there far lost = pathless_law c.boards_are_situations.ensures m b orders a o d there far lost
