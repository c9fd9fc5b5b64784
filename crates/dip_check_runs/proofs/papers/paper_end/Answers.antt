use Rattle.std.proofs.Common.{ap, arith, length, length-append}
use Rattle.dip_check_papers.specs.PaperTexts.{text_of}
use Rattle.dip_check_papers.proofs.EndLemmas.{cut_size, end_found, end_missing, line_shorter, reaches_more}
use Rattle.dip_check_runs.proofs.papers.paper_end.Goals as goal

pub overflow_sub-result : goal.overflow_sub-result
overflow_sub-result c =
    let shorter = line_shorter c.loop-line.at.now c.in-Some.line.now c.in-Some.rest.now c.in-Some.ensures in
    let all = ap length c.loop-line.invariant.2 in
    omega (arith, shorter, all, length-append (text_of c.loop-line.invariant.0) c.loop-line.at.now)

pub returns-then-eq-clause-ends : goal.returns-then-eq-clause-ends
returns-then-eq-clause-ends c =
    let found = end_found c.args.input.now c.loop-line.at.now c.in-Some.line.now c.in-Some.rest.now c.loop-line.invariant c.in-Some.ensures (rw c.as_slice.ensures at c.if-eq.ensures) in
    record { inner = found.0; lines = found.2.0; is = cut_size c.args.input.now found.0 c.in-Some.rest.now found.2 }

pub loop-line-smaller : goal.loop-line-smaller
loop-line-smaller c = line_shorter c.loop-line.at.now c.in-Some.line.now c.in-Some.rest.now c.in-Some.ensures

pub loop-line-preserved : goal.loop-line-preserved
loop-line-preserved c = reaches_more c.args.input.now c.loop-line.at.now c.in-Some.line.now c.in-Some.rest.now c.loop-line.invariant c.in-Some.ensures (rw c.as_slice.ensures at c.if-eq.ensures)

pub returns-clause-none : goal.returns-clause-none
returns-clause-none c = end_missing c.args.input.now c.loop-line.at.now c.loop-line.invariant c.in_default.ensures
