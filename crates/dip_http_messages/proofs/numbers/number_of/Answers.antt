use Rattle.std.proofs.Common.{rules}
use Rattle.dip_http_messages.proofs.TextNumbers.{parsed}
use Rattle.dip_http_messages.proofs.numbers.number_of.Goals as goal

pub returns-in_err-number : goal.returns-in_err-number
returns-in_err-number c = rw c.from_residual.ensures (λ n small is. let p = parsed c.args.text.now c.parse.result c.parse.ensures.value.0 n small is in let s = rw p at c.ok.ensures.value in let w = c.in_err-number.was in search (rules, s, w))

pub returns-else-eq : goal.returns-else-eq
returns-else-eq c = λ n small is. let p = parsed c.args.text.now c.parse.result c.parse.ensures.value.0 n small is in let s = rw p at c.ok.ensures.value in let w = c.in_ok-number.was in let t = c.format.ensures.text in let e = c.eq.ensures in let f = c.if-eq.false in search (rules, s, w, t, e, f, is)
