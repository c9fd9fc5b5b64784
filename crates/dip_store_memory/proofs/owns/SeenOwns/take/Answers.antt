use Rattle.std.proofs.Common.{sym, ap, ◌∙◌, List, map, None, Some}
use Rattle.dip_desk_state.specs.Rows as rows
use Rattle.dip_desk_state.specs.declared.records.Own.{Own}
use Rattle.dip_store_memory.specs.Owns.{owns_of}
use Rattle.dip_store_memory.proofs.Owning.{owns_found, owns_updated}
use Rattle.dip_store_memory.proofs.owns.SeenOwns.take.Goals as goal

pub returns-in_default-clause-taken : goal.returns-in_default-clause-taken
returns-in_default-clause-taken c =
    ap (λ (os : List Own). map (λ o. rows.own o) os) c.new.ensures.items
    ∙ owns_found c.args.game.now c.self.inside.games.entries None (sym c.in_default.is ∙ c.swap_remove.ensures.value)
    ∙ ap (owns_of c.args.game.now) c.self.view_is

pub returns-in_default-clause-left : goal.returns-in_default-clause-left
returns-in_default-clause-left c other =
    rw (sym c.self.view_is) (owns_updated c.args.game.now c.self.inside.games c.swap_remove.new.self None c.swap_remove.ensures.updates other)

pub returns-clause-taken : goal.returns-clause-taken
returns-clause-taken c =
    owns_found c.args.game.now c.self.inside.games.entries (Some c.in-Some.owns) (sym c.in-Some.is ∙ c.swap_remove.ensures.value)
    ∙ ap (owns_of c.args.game.now) c.self.view_is

pub returns-clause-left : goal.returns-clause-left
returns-clause-left c other =
    rw (sym c.self.view_is) (owns_updated c.args.game.now c.self.inside.games c.swap_remove.new.self None c.swap_remove.ensures.updates other)
