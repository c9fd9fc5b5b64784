use Rattle.dip_check_laws.proofs.RunLemmas.{found_right, printed}
use Rattle.dip_check_laws.proofs.laws.reports_are_right.Goals as goal

pub returns-clause-printed : goal.returns-clause-printed
returns-clause-printed c m s name g right found = printed m s name g right found

pub returns-clause-found : goal.returns-clause-found
returns-clause-found c m input right is told = found_right m input right is told
