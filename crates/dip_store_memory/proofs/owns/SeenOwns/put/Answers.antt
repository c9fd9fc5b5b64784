use Rattle.std.proofs.Common.{rules, ◌≡◌, ◌∙◌, Some, string_bytes}
use Rattle.dip_store_memory.proofs.Owning.{owns_updated, put_named}
use Rattle.dip_store_memory.proofs.owns.SeenOwns.put.Goals as goal

pub returns-clause-ok : goal.returns-clause-ok
returns-clause-ok c other =
    let key : string_bytes c.in_ok-key.key ≡ c.args.game.now = search rules in
    owns_updated (string_bytes c.in_ok-key.key) c.self.inside.games c.insert.new.self (Some c.args.owns) c.in_ok-insert.ensures.updates other
    ∙ put_named other _ _ _ _ _ key c.self.view_is
