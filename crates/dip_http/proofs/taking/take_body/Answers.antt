use Rattle.std.proofs.Common.{None, false, ap, inl, inr, refl}
use Rattle.dip_desk_state.specs.Records.{Reply}
use Rattle.dip_desk_state.specs.Rows as rows
use Rattle.dip_desk_state.specs.Texts.{reply_text}
use Rattle.dip_desk_machine.specs.Mail.{mail}
use Rattle.dip_http_messages.specs.Answers.{answer_bytes, plain}
use Rattle.dip_http.specs.Answering.{status_of}
use Rattle.dip_http.proofs.EndLemmas.{posted_part, posted_whole}
use Rattle.dip_http.proofs.RespondLemmas.{responds_taken, responds_untaken, responds_written}
use Rattle.dip_http.proofs.taking.take_body.Goals as goal

pub returns-in-Ok : goal.returns-in-Ok
returns-in-Ok g c =
    let is = ap (λ (r : Reply). answer_bytes 400 plain None false (reply_text r)) c.in-Ok.ensures in
    responds_written c.args.map.now g.K.Keeper.book false _ _ _ _ _ c.args.keeper.now c.write_reply.result c.write_reply.ensures.fault
    (λ s. posted_whole c.args.map.now c.args.body.now s s _ _ (answer_bytes 400 plain None false (reply_text (rows.reply c.in-Ok.reply))) c.write_reply.result
    (inr (record { none = c.in-None.ensures.none; carries = is; same = refl })) c.write_reply.ensures.ok)
    (λ s. posted_part c.args.map.now c.args.body.now s s _ _ (answer_bytes 400 plain None false (reply_text (rows.reply c.in-Ok.reply))) c.write_reply.result
    (inr (record { none = c.in-None.ensures.none; carries = is; same = refl })) c.write_reply.ensures.err c.write_reply.ensures.fault)

pub returns-in-Ok-take : goal.returns-in-Ok-take
returns-in-Ok-take g c =
    responds_taken c.args.map.now g.K.Keeper.book false _ _ _ _ _ c.args.keeper.now c.take.new.keeper _ _ _ _ c.write_reply-in-Ok-take.result c.in-Ok-take.ensures c.write_reply-in-Ok-take.ensures.fault
    (λ sound shows. posted_whole c.args.map.now c.args.body.now _ _ _ _ (answer_bytes (status_of c.in-Ok-take.reply.outcome) plain None false (reply_text (rows.reply c.in-Ok-take.reply))) c.write_reply-in-Ok-take.result
    (inl (mail c.in-Some.letter, c.in-Some.ensures.some, record { reply = rows.reply c.in-Ok-take.reply; step = c.in-Ok-take.ensures.done sound shows; carries = refl }))
    (rw c.status_of.ensures at c.write_reply-in-Ok-take.ensures.ok))
    (λ sound shows. posted_part c.args.map.now c.args.body.now _ _ _ _ (answer_bytes (status_of c.in-Ok-take.reply.outcome) plain None false (reply_text (rows.reply c.in-Ok-take.reply))) c.write_reply-in-Ok-take.result
    (inl (mail c.in-Some.letter, c.in-Some.ensures.some, record { reply = rows.reply c.in-Ok-take.reply; step = c.in-Ok-take.ensures.done sound shows; carries = refl }))
    (rw c.status_of.ensures at c.write_reply-in-Ok-take.ensures.err) c.write_reply-in-Ok-take.ensures.fault)
    (λ sound shows lawful. c.lawful_states_stay_lawful.ensures.stays _ (mail c.in-Some.letter) _ _ c.in-Some.ensures.mail lawful (c.in-Ok-take.ensures.done sound shows))

pub returns-in-Err-take : goal.returns-in-Err-take
returns-in-Err-take g c =
    responds_untaken c.args.map.now g.K.Keeper.book false _ _ _ _ _ c.args.keeper.now c.take.new.keeper _ _ _ _ c.unavailable.result c.unavailable.ensures.fault c.in-Err-take.ensures c.unavailable.ensures.written
    (λ sound shows. (c.in-Err-take.ensures.undone sound shows, c.unavailable.ensures.written))
    (λ s reply step. record { letter = mail c.in-Some.letter; is = c.in-Some.ensures.some; reply = reply; step = step })
    (λ lawful damaged. c.lawful_states_stay_lawful.ensures.sane _ (mail c.in-Some.letter) _ c.in-Some.ensures.mail lawful damaged)
