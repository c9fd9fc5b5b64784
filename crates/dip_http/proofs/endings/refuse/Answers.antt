use Rattle.std.proofs.Common.{List, ℕ, subst, ◌∙◌, append-nil}
use Rattle.dip_http_messages.specs.Answers.{IsPart, answer_bytes, plain}
use Rattle.dip_http_messages.specs.AnswerViews.{allowed, status_number}
use Rattle.dip_http.proofs.endings.refuse.Goals as goal

pub returns-in-Err-clause-err : goal.returns-in-Err-clause-err
returns-in-Err-clause-err g c =
    subst (λ (t : List ℕ). IsPart (g.W.Write.contents c.args.writer.now) (g.W.Write.contents c.write_answer.new.writer) (answer_bytes (status_number c.args.why) plain (allowed c.args.why) c.args.quiet t))
    (append-nil c.body.result.now ∙ c.body.ensures) (rw (c.status.ensures, c.allow.ensures) at c.in-Err.ensures.err)
