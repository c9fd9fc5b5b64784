use Rattle.std.proofs.Common.{append_assoc, refl}
use Rattle.dip_http_messages.proofs.writing.head_pieces.Goals as goal

pub returns : goal.returns
returns c = rw (append_assoc c.args.allow.0.now) refl
