use Rattle.std.proofs.Common.{length}
use Rattle.dip_check_papers.proofs.EndLemmas.{Reaches}
use Rattle.dip_check_runs.proofs.papers.paper_end.Given as goal

abbrev pub invariant-loop-line : goal.invariant-loop-line
invariant-loop-line l = Reaches l.input l.at

abbrev pub decreases-loop-line : goal.decreases-loop-line
decreases-loop-line l = length l.at
