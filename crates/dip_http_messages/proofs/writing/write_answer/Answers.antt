use Rattle.std.proofs.Common.{List, append-nil, length, subst, sym, ℕ}
use Rattle.std.specs.List.{flat_map}
use Rattle.std.specs.Io.KnownBytes.{Appends}
use Rattle.dip_http_messages.specs.AnswerViews.{head_text}
use Rattle.std.proofs.lemmas.Result.{err_from_is_err_and}
use Rattle.std.proofs.KnownBytes.{Appends-trans}
use Rattle.dip_http_messages.proofs.WriteLemmas.{part_first, part_later, part_weaker, whole_stronger}
use Rattle.dip_http_messages.proofs.writing.write_answer.Goals as goal

pub returns-in_err-write_head-clause-err : goal.returns-in_err-write_head-clause-err
returns-in_err-write_head-clause-err g c =
    let p = err_from_is_err_and c.from_residual.result c.from_residual.ensures.1 in
    rw p.1 (part_first _ _ _ _ (rw c.size_of.ensures at c.in_err-write_head.ensures.err))

pub returns-clause-ok : goal.returns-clause-ok
returns-clause-ok g c =
    let front = rw c.size_of.ensures at c.in_ok-write_head.ensures.ok in
    rw c.if-answer.false (whole_stronger c.write_pieces.result _ _ (λ h. Appends-trans _ _ _ _ _ front h) c.write_pieces.ensures.ok)

pub returns-clause-err : goal.returns-clause-err
returns-clause-err g c =
    let front = rw c.size_of.ensures at c.in_ok-write_head.ensures.ok in
    rw c.if-answer.false (part_weaker c.write_pieces.result _ _ (λ h. part_later _ _ _ _ _ front h) c.write_pieces.ensures.err)

pub returns-then-answer-clause-ok : goal.returns-then-answer-clause-ok
returns-then-answer-clause-ok g c =
    let front = rw c.size_of.ensures at c.in_ok-write_head.ensures.ok in
    let all = head_text c.args.answer.now (length (flat_map (λ t. t.now) c.args.body.now)) in
    rw c.if-answer.true (subst (λ (t : List ℕ). Appends (g.W.Write.contents c.args.writer.now) (g.W.Write.contents c.write_head.new.writer) t) (sym (append-nil all)) front)
