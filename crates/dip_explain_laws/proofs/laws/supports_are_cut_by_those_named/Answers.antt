use Rattle.dip_explain_laws.proofs.VerdictLemmas.{told_cut, told_cutter, told_given}
use Rattle.dip_explain_laws.proofs.laws.supports_are_cut_by_those_named.Goals as goal

pub returns-clause-cut : goal.returns-clause-cut
returns-clause-cut c steps a line h t m n = told_cut steps a line t h m n

pub returns-clause-cutters : goal.returns-clause-cutters
returns-clause-cutters c steps a line h x t m n l = told_cutter steps a line t h m n x l

pub returns-clause-given : goal.returns-clause-given
returns-clause-given c steps a line h x t m y l = told_given steps a line t h m y x l
