use Rattle.std.proofs.Common.{◌<◌, length, arith}
use Rattle.httparse.specs.Grammar.{print_request}
use Rattle.dip_http_messages.proofs.HeadLemmas.{too_late, too_long}
use Rattle.dip_http_messages.proofs.front.front_of.Goals as goal

pub returns-else-head-le-MOST_HEAD : goal.returns-else-head-le-MOST_HEAD
returns-else-head-le-MOST_HEAD c =
    let at = rw c.in-Ok-Complete.field-0-is at c.in-Ok-Complete.ensures.complete in
    let size = at.1.len in
    let long : 8192 < length (print_request at.0) = omega (arith, size) in
    λ more. too_long c.args.buf.now more at.0 _ at.1.reads long

pub returns-else-buf-lt-MOST_HEAD : goal.returns-else-buf-lt-MOST_HEAD
returns-else-buf-lt-MOST_HEAD c =
    let none = rw c.in-Ok-Partial.field-0-is at c.in-Ok-Partial.ensures.partial in
    λ more. too_late c.args.buf.now more none c.if-buf-lt-MOST_HEAD.false
