use Rattle.dip_desk_machine.proofs.Once.{decided_once, histories_one}
use Rattle.dip_desk_machine.proofs.laws.histories_are_one.Goals as goal

pub returns-clause-once : goal.returns-clause-once
returns-clause-once c m = decided_once m c.phases_have_one_result.ensures

pub returns-clause-one : goal.returns-clause-one
returns-clause-one c m = histories_one m (decided_once m c.phases_have_one_result.ensures)
