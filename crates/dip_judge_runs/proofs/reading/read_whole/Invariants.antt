use Rattle.std.proofs.Common.{◌+◌, ◌-◌, vec_len}
use Rattle.std.specs.Io.KnownBytes.{Consumes}
use Rattle.dip_judge_runs.proofs.reading.read_whole.Given as goal

abbrev pub invariant-reading : goal.invariant-reading
invariant-reading g l = Consumes (g.R.Read.remaining l.initial.reader) (g.R.Read.remaining l.reader) l.input.items

abbrev pub decreases-reading : goal.decreases-reading
decreases-reading g l = (l.most + 1) - vec_len l.input
