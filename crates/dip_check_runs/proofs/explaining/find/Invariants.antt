use Rattle.std.proofs.Common.{◌-◌}
use Rattle.dip_check_runs.specs.Runs.{count_played}
use Rattle.dip_check_runs.proofs.RunLemmas.{Reached}
use Rattle.dip_check_runs.proofs.explaining.find.Given as goal

abbrev pub invariant-papers : goal.invariant-papers
invariant-papers g l = Reached l.fn.map (g.R.Read.remaining l.fn.reader) (g.R.Read.remaining l.reader) l.game l.ahead

abbrev pub decreases-papers : goal.decreases-papers
decreases-papers g l = 999999999 - count_played l.game
