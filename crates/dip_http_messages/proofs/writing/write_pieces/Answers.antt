use Rattle.dip_http_messages.proofs.WriteLemmas.{part_of}
use Rattle.dip_http_messages.proofs.writing.write_pieces.Goals as goal

pub returns-in-Err-clause-err : goal.returns-in-Err-clause-err
returns-in-Err-clause-err g c = part_of _ _ _ c.in-Err.ensures.err
