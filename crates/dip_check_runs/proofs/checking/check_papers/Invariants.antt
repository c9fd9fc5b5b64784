use Rattle.std.proofs.Common.{◌-◌, flat_map}
use Rattle.std.specs.Io.KnownBytes.{Appends}
use Rattle.dip_check_runs.specs.Runs.{count_played}
use Rattle.dip_check_runs.specs.Texts.{right_text}
use Rattle.dip_check_runs.proofs.ExactLemmas.{StandsSo}
use Rattle.dip_check_runs.proofs.RunLemmas.{Reached}
use Rattle.dip_check_runs.proofs.checking.check_papers.Given as goal

abbrev pub invariant-papers : goal.invariant-papers
invariant-papers g l = (r : Reached l.fn.map (g.R.Read.remaining l.fn.reader) (g.R.Read.remaining l.reader) l.game l.ahead)
    × Appends (g.W.Write.contents l.fn.writer) (g.W.Write.contents l.writer) (flat_map right_text r.papers)
    × StandsSo l.fn.map r.papers l.game

abbrev pub decreases-papers : goal.decreases-papers
decreases-papers g l = 999999999 - count_played l.game
