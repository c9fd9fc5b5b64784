use Rattle.dip_decide_laws.proofs.UnmatchedLemmas.{unmatched_law, void_law}
use Rattle.dip_decide_laws.proofs.laws.unmatched_changes_nothing.Goals as goal

pub returns-clause-same : goal.returns-clause-same
returns-clause-same c m b orders a h standing there supports unmatched = unmatched_law m b orders a h standing there supports unmatched

pub returns-clause-void : goal.returns-clause-void
returns-clause-void c m b orders a h d there supports unmatched = void_law m b orders a h d there supports unmatched
