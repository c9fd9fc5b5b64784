use Rattle.std.proofs.Common.{sym, add-one, ◌+◌}
use Rattle.std.proofs.lemmas.List.{take_rest}
use Rattle.dip_check_papers.proofs.EndLemmas.{line_found, line_missing}
use Rattle.dip_check_runs.proofs.papers.line_of.Goals as goal

pub returns-in_err-end : goal.returns-in_err-end
returns-in_err-end c = rw c.from_residual.ensures (line_missing c.args.bytes.now (sym c.in_err-end.ensures))

pub returns : goal.returns
returns c = rw (take_rest c.args.bytes.now (c.in_ok-end.end + 1), add-one) (line_found c.args.bytes.now c.in_ok-end.end (sym c.in_ok-end.ensures))
