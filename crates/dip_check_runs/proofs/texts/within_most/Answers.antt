use Rattle.std.proofs.Common.{arith, sym, take_all}
use Rattle.std.proofs.lemmas.List.{length-take-le}
use Rattle.dip_check_runs.proofs.texts.within_most.Goals as goal

pub returns-then-paper-le-MOST_PAPER : goal.returns-then-paper-le-MOST_PAPER
returns-then-paper-le-MOST_PAPER c = sym (take_all _ c.args.paper.now c.if-paper-le-MOST_PAPER.true)

pub slice_bounds-result-end : goal.slice_bounds-result-end
slice_bounds-result-end c = sym (length-take-le _ c.args.paper.now (omega (arith, c.if-paper-le-MOST_PAPER.false)))
