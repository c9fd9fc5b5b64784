use Rattle.dip_http.proofs.EndLemmas.{part_of_whole}
use Rattle.dip_http.proofs.endings.unavailable.Goals as goal

pub returns-clause-written : goal.returns-clause-written
returns-clause-written g c = part_of_whole c.refuse.result _ _ _ c.refuse.ensures.ok c.refuse.ensures.err
