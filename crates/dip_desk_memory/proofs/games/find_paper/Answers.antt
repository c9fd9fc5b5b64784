use Rattle.std.proofs.Common.{ap, ◌∙◌, List, Option, String, option_and_then}
use Rattle.std.specs.declared.alloc.Global.{Global}
use Rattle.dip_desk_state.specs.State as s
use Rattle.dip_desk_state.specs.Rows as rows
use Rattle.dip_desk_memory.proofs.games.find_paper.Goals as goal

pub returns : goal.returns
returns c =
    c.paper_numbered.ensures
    ∙ ap (λ (ps : List (String Global)). s.paper_numbered c.args.number (rows.lines ps)) c.as_slice.ensures.value
    ∙ ap (λ (x : Option s.Game). option_and_then (λ g. s.paper_numbered c.args.number g.papers) x) c.in_ok-game.ensures.found
