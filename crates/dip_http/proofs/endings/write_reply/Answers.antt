use Rattle.dip_http.proofs.endings.write_reply.Goals as goal

pub returns-clause-ok : goal.returns-clause-ok
returns-clause-ok g c = rw c.reply_pieces-pieces.ensures at c.write_found.ensures.ok

pub returns-clause-err : goal.returns-clause-err
returns-clause-err g c = rw c.reply_pieces-pieces.ensures at c.write_found.ensures.err
