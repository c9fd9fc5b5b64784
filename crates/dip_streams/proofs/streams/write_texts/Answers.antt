use Rattle.std.proofs.Common.{rules}
use Rattle.std.proofs.lemmas.Result.{err_from_is_err_and}
use Rattle.dip_streams.proofs.TextLemmas.{part_written}
use Rattle.dip_streams.proofs.streams.write_texts.Goals as goal

pub returns-in_err-write_text-clause-err : goal.returns-in_err-write_text-clause-err
returns-in_err-write_text-clause-err g c =
    let p = err_from_is_err_and c.from_residual.result c.from_residual.ensures.1 in
    let part = rw c.as_bytes.ensures.value at c.in_err-write_text.ensures.err in
    rw p.1 (part_written _ _ _ (λ t. t.now) c.args.texts.now c.texts.text-index _ part.0 (search rules) c.texts.invariant part.1)
