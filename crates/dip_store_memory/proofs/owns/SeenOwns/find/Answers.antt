use Rattle.std.proofs.Common.{rules, ◌≡◌, ◌∙◌, ap, Bor, List, None, Option, Some, map, option_map}
use Rattle.dip_desk_state.specs.Rows as rows
use Rattle.dip_desk_state.specs.declared.records.Own.{Own}
use Rattle.dip_store_memory.specs.Owns.{Owns, own_among, owns_of}
use Rattle.dip_store_memory.proofs.Owning.{owns_found}
use Rattle.dip_store_memory.proofs.owns.SeenOwns.find.Goals as goal

pub returns : goal.returns
returns c =
    c.own_in.ensures
    ∙ ap (λ (os : List Own). own_among c.args.power (map (λ o. rows.own o) os)) c.as_slice.ensures.value
    ∙ ap (own_among c.args.power) (owns_found c.args.game.now c.self.inside.games.entries (Some c.in_ok-owns.owns.now) c.in_ok-owns.ensures.value)
    ∙ ap (λ (ws : Owns). own_among c.args.power (owns_of c.args.game.now ws)) c.self.view_is

pub returns-in_err-owns : goal.returns-in_err-owns
returns-in_err-owns c =
    let none : c.from_residual.result ≡ None = search rules in
    ap (λ (o : Option (Bor Own)). option_map (λ o. rows.own o.now) o) none
    ∙ ap (own_among c.args.power) (owns_found c.args.game.now c.self.inside.games.entries None c.in_err-owns.ensures.value)
    ∙ ap (λ (ws : Owns). own_among c.args.power (owns_of c.args.game.now ws)) c.self.view_is
