use Rattle.std.proofs.Common.{◌≡◌, ◌∙◌, rules, Some, string_bytes}
use Rattle.dip_store_memory.proofs.Idling.{put_named, stirred_updated}
use Rattle.dip_store_memory.proofs.idle.IdleSeats.put.Goals as goal

pub returns-clause-ok : goal.returns-clause-ok
returns-clause-ok c name =
    let key : string_bytes c.in_ok-key.key ≡ c.args.game.now = search rules in
    stirred_updated (string_bytes c.in_ok-key.key) c.self.inside.games c.insert.new.self (Some c.args.stirred) c.in_ok-insert.ensures.updates name
    ∙ put_named name _ _ c.args.stirred _ _ key c.self.view_is
