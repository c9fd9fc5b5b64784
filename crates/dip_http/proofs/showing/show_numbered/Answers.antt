use Rattle.std.proofs.Common.{None, List, ℕ, ap, append-nil, ◌∙◌}
use Rattle.dip_http_messages.specs.Answers.{answer_bytes, plain}
use Rattle.dip_http.specs.Answering.{paper_answer}
use Rattle.dip_http.proofs.EndLemmas.{shown_part, shown_whole}
use Rattle.dip_http.proofs.RespondLemmas.{responds_shown}
use Rattle.dip_http.proofs.showing.show_numbered.Goals as goal

pub returns-in-Ok-Some-clause-shows : goal.returns-in-Ok-Some-clause-shows
returns-in-Ok-Some-clause-shows g c =
    let b = g.K.Keeper.book in
    let bytes = ap (λ (t : List ℕ). answer_bytes 200 plain None c.args.quiet t) (append-nil c.as_str.result.now ∙ c.as_str.ensures.value) in
    responds_shown c.args.map.now b c.args.quiet _ _ _ _ _ c.args.keeper.now c.paper.new.self _ _ _ c.write_found.result (rw c.in-Ok-Some.field-0-is at c.in-Ok-Some.ensures) c.write_found.ensures.fault
    (λ sound shows.
    let found = rw c.in-Ok-Some.field-0-is at c.in-Ok-Some.ensures.value sound shows in
    shown_whole c.write_found.result _ _ _ _ _ _ (bytes ∙ ap (paper_answer c.args.quiet) found) (c.paper.ensures.same sound shows) c.write_found.ensures.ok)
    (λ sound shows.
    let found = rw c.in-Ok-Some.field-0-is at c.in-Ok-Some.ensures.value sound shows in
    shown_part c.write_found.result _ _ c.args.quiet _ _ _ _ (bytes ∙ ap (paper_answer c.args.quiet) found) (c.paper.ensures.same sound shows) c.write_found.ensures.err c.write_found.ensures.fault)
