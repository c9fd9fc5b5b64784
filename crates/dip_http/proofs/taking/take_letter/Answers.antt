use Rattle.std.proofs.Common.{◌∙◌}
use Rattle.dip_http.proofs.BodyLemmas.{body_carried, body_part, body_taken}
use Rattle.dip_http.proofs.RespondLemmas.{responds_as}
use Rattle.dip_http.proofs.taking.take_letter.Goals as goal

pub returns-in-Ok-Some : goal.returns-in-Ok-Some
returns-in-Ok-Some g c =
    let read = rw c.in-Ok-Some.field-0-is at c.in-Ok-Some.ensures.some in
    let is = c.as_slice.ensures.value ∙ read.2 in
    responds_as c.args.map.now g.K.Keeper.book _ _ _ c.args.keeper.now c.take_body.new.keeper _ _ _ _ _ _ c.take_body.result
    (λ s t. body_carried c.args.map.now c.args.size c.args.start.now read.0 c.as_slice.result.now _ _ s t _ _ c.take_body.result read.1 is read.3)
    (λ s t. body_part c.args.map.now c.args.size c.args.start.now read.0 c.as_slice.result.now _ _ s t _ _ c.take_body.result read.1 is read.3)
    (λ s t taken. body_taken c.args.map.now c.args.size c.args.start.now read.0 c.as_slice.result.now _ _ s t read.1 is read.3 taken)
    c.take_body.ensures
