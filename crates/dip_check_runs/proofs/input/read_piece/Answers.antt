use Rattle.dip_check_runs.proofs.InputLemmas.{read_more}
use Rattle.dip_check_runs.proofs.input.read_piece.Goals as goal

pub returns-in-Ok-extend_from_slice-clause-read : goal.returns-in-Ok-extend_from_slice-clause-read
returns-in-Ok-extend_from_slice-clause-read g c = λ known used read.
    read_more known _ _ used _ c.args.ahead.now _ c.requires c.requires c.in-Ok-extend_from_slice.ensures.items c.in-Ok.ensures.bytes.0 read
