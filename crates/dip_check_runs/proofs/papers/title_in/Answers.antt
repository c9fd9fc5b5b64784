use Rattle.dip_check_runs.proofs.TitleLemmas.{front_to_end, front_to_last, front_to_most}
use Rattle.dip_check_runs.proofs.papers.title_in.Goals.{then-bytes-test+else-at-lt80, else-bytes-test}
use Rattle.dip_check_runs.proofs.papers.title_in.Goals as goal

pub returns-then-paper-at-eq10 : goal.returns-then-paper-at-eq10
returns-then-paper-at-eq10 c =
    front_to_end 80 c.bytes.at c.args.paper.now c.if-at-lt80.true c.bytes-test.true c.bytes.invariant.line c.if-paper-at-eq10.true

pub returns : goal.returns
returns c = elim c.bytes-test.branch [
  | then-bytes-test+else-at-lt80 w ↦ front_to_most 80 c.bytes.at c.args.paper.now c.bytes.invariant.few w.if-at-lt80.false c.bytes.invariant.line
  | else-bytes-test w ↦ front_to_last 80 c.bytes.at c.args.paper.now c.bytes.invariant.few w.bytes-test.false c.bytes.invariant.line
]
