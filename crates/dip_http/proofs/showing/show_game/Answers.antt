use Rattle.std.proofs.Common.{None, List, ℕ, ap, append-nil, codes, rules, ◌≡◌, ◌∙◌}
use Rattle.dip_http_messages.specs.Answers.{answer_bytes}
use Rattle.dip_http.specs.Answering.{game_answer}
use Rattle.dip_http_messages.specs.Texts.{state_text}
use Rattle.dip_desk_state.specs.Rows as rows
use Rattle.dip_desk_state.specs.declared.records.Public.{Public}
use Rattle.dip_http.proofs.EndLemmas.{shown_part, shown_whole}
use Rattle.dip_http.proofs.RespondLemmas.{responds_shown}
use Rattle.dip_http.proofs.showing.show_game.Goals as goal

pub returns-clause-shows : goal.returns-clause-shows
returns-clause-shows g c =
    let b = g.K.Keeper.book in
    let lent : c.deref.result.now ≡ c.in-Ok-Some.public.value = search rules in
    let text = c.in-Ok.ensures ∙ ap (λ (p : Public). state_text c.args.map.now (rows.public p)) lent in
    let bytes = ap (λ (t : List ℕ). answer_bytes 200 (codes "application/json") None c.args.quiet t) (append-nil c.as_str.result.now ∙ c.as_str.ensures.value ∙ text) in
    responds_shown c.args.map.now b c.args.quiet _ _ _ _ _ c.args.keeper.now c.public.new.self _ _ _ c.write_found.result (rw c.in-Ok-Some.field-0-is at c.in-Ok-Some.ensures) c.write_found.ensures.fault
    (λ sound shows.
    let found = rw c.in-Ok-Some.field-0-is at c.in-Ok-Some.ensures.value sound shows in
    shown_whole c.write_found.result _ _ _ _ _ _ (bytes ∙ ap (game_answer c.args.map.now c.args.quiet) found) (c.public.ensures.same sound shows) c.write_found.ensures.ok)
    (λ sound shows.
    let found = rw c.in-Ok-Some.field-0-is at c.in-Ok-Some.ensures.value sound shows in
    shown_part c.write_found.result _ _ c.args.quiet _ _ _ _ (bytes ∙ ap (game_answer c.args.map.now c.args.quiet) found) (c.public.ensures.same sound shows) c.write_found.ensures.err c.write_found.ensures.fault)
