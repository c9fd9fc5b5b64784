use Rattle.dip_explain_laws.proofs.LineLemmas.{each_told, once_told}
use Rattle.dip_explain_laws.proofs.laws.each_decision_has_one_line.Goals as goal

pub returns-clause-once : goal.returns-clause-once
returns-clause-once c s steps a e = once_told s steps a e

pub returns-clause-each : goal.returns-clause-each
returns-clause-each c s steps a d e = each_told s steps a e d
