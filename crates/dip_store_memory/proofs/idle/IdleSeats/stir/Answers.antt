use Rattle.std.proofs.Common.{◌≡◌, ◌∙◌, ap, sym, subst, None, Some, ℕ, bytes_eq, true}
use Rattle.std.specs.List.{slice_set}
use Rattle.std.specs.Map.{lookup}
use Rattle.dip_store_memory.specs.Idle.{Idle, is_still}
use Rattle.dip_store_memory.proofs.Idling.{marked, out_left, stirred_found, stirred_left, stirred_updated}
use Rattle.dip_store_memory.proofs.idle.IdleSeats.stir.Goals as goal

pub returns-in_default : goal.returns-in_default
returns-in_default c =
    out_left c.args.game.now c.args.power c.args.self.now _ (λ name. rw (sym c.self.view_is) (stirred_updated c.args.game.now c.self.inside.games c.swap_remove.new.self None c.swap_remove.ensures.updates name))

pub returns-else-index-lt8 : goal.returns-else-index-lt8
returns-else-index-lt8 c =
    out_left c.args.game.now c.args.power c.args.self.now _ (λ name. rw (sym c.self.view_is) (stirred_updated c.args.game.now c.self.inside.games c.swap_remove.new.self None c.swap_remove.ensures.updates name))

pub returns-then-index-lt8 : goal.returns-then-index-lt8
returns-then-index-lt8 c =
    let game = c.args.game.now in
    let marks = c.in-Some.stirred in
    let same = c.from-index.ensures ∙ c.index.ensures in
    let found = sym (sym c.in-Some.is ∙ c.swap_remove.ensures.value ∙ stirred_found game c.self.inside.games.entries ∙ ap (λ (ws : Idle). lookup (bytes_eq game) ws) c.self.view_is) in
    stirred_left c.put.result game c.args.power marks (slice_set marks c.from-index.result true) c.args.self.now _ c.put.new.self found
    (λ name. rw (sym c.self.view_is) (stirred_updated game c.self.inside.games c.swap_remove.new.self None c.swap_remove.ensures.updates name))
    (λ other h. marked marks c.args.power other (subst (λ (n : ℕ). is_still other (Some (slice_set marks n true)) ≡ true) same h))
    c.put.ensures.ok c.put.ensures.err
