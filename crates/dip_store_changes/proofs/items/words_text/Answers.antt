use Rattle.std.proofs.Common.{arith, ◌++◌, codes, ap, ap₂, flat_map, string_bytes, ◌∙◌}
use Rattle.dip_desk_state.specs.Rows as records
use Rattle.dip_store_changes.proofs.Joining.{words_joined}
use Rattle.dip_store_changes.proofs.items.words_text.Goals as goal

pub returns : goal.returns
returns c =
    let ws = c.args.words.now in
    let first = c.in_ok-push_str.ensures.bytes ∙ ap₂ ◌++◌ c.new-out.ensures.bytes (c.as_str.ensures.value ∙ ap (λ w. string_bytes w) c.index-words-0.is) in
    c.in_ok-push_words.ensures ∙ ap₂ (λ t vs. t ++ flat_map (λ v. codes " " ++ v) (records.lines vs)) first c.rest.ensures
    ∙ words_joined ws c.index-words-0.result (omega (arith, c.if-words-eq0.false))
