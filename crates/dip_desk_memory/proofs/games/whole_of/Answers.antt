use Rattle.std.proofs.Common.{ap, rules, ◌≡◌, ◌∙◌, List, map}
use Rattle.dip_desk_state.specs.Rows as rows
use Rattle.dip_desk_state.specs.declared.records.Public.{Public}
use Rattle.dip_desk_memory.specs.Stored.{parts}
use Rattle.dip_desk_memory.specs.declared.games.SeatRow.{SeatRow}
use Rattle.dip_desk_memory.proofs.PartLemmas.{whole_shown}
use Rattle.dip_desk_memory.proofs.games.whole_of.Goals as goal

pub returns : goal.returns
returns c =
    let same : c.deref.result.now ≡ c.args.game.now.public.value = search rules in
    whole_shown c.args.name.now c.args.game.now (rows.public c.in_ok-copy_under.field-0) (map (λ o. rows.own o) c.in_ok-owns_copy.field-0.items)
    (c.in_ok-copy_under.ensures ∙ ap (λ (p : Public). record (rows.public p) { game = c.args.name.now }) same)
    (c.in_ok-owns_copy.ensures ∙ ap (λ (xs : List SeatRow). map (λ p. p.own) (parts xs)) c.as_slice.ensures.value)
