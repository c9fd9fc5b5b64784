use Rattle.dip_decide.proofs.FromEquations.{one_enters, none_dislodges_its_own, none_swaps}
use Rattle.dip_decide.proofs.laws.equations_are_lawful.Goals as goal

pub returns-clause-enters : goal.returns-clause-enters
returns-clause-enters c s broken a i h = one_enters s i broken a h

pub returns-clause-own : goal.returns-clause-own
returns-clause-own c s broken a h = none_dislodges_its_own s broken a h

pub returns-clause-swaps : goal.returns-clause-swaps
returns-clause-swaps c s broken a h = none_swaps s broken a h
