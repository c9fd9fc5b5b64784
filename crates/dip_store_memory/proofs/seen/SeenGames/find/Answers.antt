use Rattle.std.proofs.Common.{◌∙◌, ap, option_map}
use Rattle.std.specs.declared.alloc.Global.{Global}
use Rattle.std.specs.declared.rc.Rc.{Rc}
use Rattle.dip_desk_state.specs.Rows as rows
use Rattle.dip_desk_state.specs.declared.records.Public.{Public}
use Rattle.dip_store_memory.specs.Seen.{part_of}
use Rattle.dip_store_memory.proofs.Seeing.{part_found, part_shown}
use Rattle.dip_store_memory.proofs.seen.SeenGames.find.Goals as goal

pub returns : goal.returns
returns c =
    part_shown c.get.result
    ∙ ap (option_map (λ (p : Rc Public Global). rows.public p.value)) c.get.ensures.value
    ∙ part_found c.args.name.now c.self.inside.parts.entries
    ∙ ap (part_of c.args.name.now) c.self.view_is
