use Rattle.std.proofs.Common.{rules, ◌≡◌, ◌∙◌, Some, string_bytes}
use Rattle.dip_desk_state.specs.Rows as rows
use Rattle.dip_store_memory.proofs.Seeing.{part_noted, parts_updated}
use Rattle.dip_store_memory.proofs.seen.SeenGames.note.Goals as goal

pub returns-clause-ok : goal.returns-clause-ok
returns-clause-ok c other =
    let key : string_bytes c.in_ok-key.key ≡ c.args.name.now = search rules in
    let part : rows.public c.in_ok-part.part.value ≡ rows.public c.args.public.now.value = search rules in
    parts_updated (string_bytes c.in_ok-key.key) c.self.inside.parts c.insert.new.self (Some c.in_ok-part.part) c.in_ok-insert.ensures.updates other
    ∙ part_noted other _ _ _ _ _ _ key part (c.self.view_is ∙ c.make_room.ensures)
