use Rattle.dip_check_runs.proofs.InputLemmas.{consumes_none, used_part, used_more, used_open}
use Rattle.dip_check_runs.proofs.input.skip_rest.Goals as goal

pub reading-init : goal.reading-init
reading-init g c = λ known used read. used_open _ _ _ _ c.if-ahead.false read

pub returns-in-Err : goal.returns-in-Err
returns-in-Err g c = λ known used read. used_part _ _ _ (used_more _ _ _ _ _ (consumes_none _ _ c.in-Err.ensures.bytes) (c.reading.invariant known used read))

pub returns-in-Ok-eq0 : goal.returns-in-Ok-eq0
returns-in-Ok-eq0 g c = λ known used read. used_part _ _ _ (used_more _ _ _ _ _ c.in-Ok-eq0.ensures.bytes.0 (c.reading.invariant known used read))

pub reading-preserved : goal.reading-preserved
reading-preserved g c = λ known used read. used_more _ _ _ _ _ c.in-Ok.ensures.bytes.0 (c.reading.invariant known used read)

pub returns : goal.returns
returns g c = λ known used read. used_part _ _ _ (c.reading.invariant known used read)
