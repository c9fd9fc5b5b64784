use Rattle.std.proofs.Common.{◌≡◌, rules}
use Rattle.dip_http_messages.specs.Answers.{phrase}
use Rattle.dip_http_messages.proofs.writing.write_head.Goals as goal

pub returns-clause-ok : goal.returns-clause-ok
returns-clause-ok g c =
    let words : c.unwrap_or-phrase.result.now ≡ phrase c.args.answer.now.status = search rules in
    rw (c.head_pieces.ensures, c.allow_pieces-allow.ensures, c.format-length.ensures.text, c.format-status.ensures.text, c.as_u16.ensures.value, words) at c.write_pieces.ensures.ok

pub returns-clause-err : goal.returns-clause-err
returns-clause-err g c =
    let words : c.unwrap_or-phrase.result.now ≡ phrase c.args.answer.now.status = search rules in
    rw (c.head_pieces.ensures, c.allow_pieces-allow.ensures, c.format-length.ensures.text, c.format-status.ensures.text, c.as_u16.ensures.value, words) at c.write_pieces.ensures.err
