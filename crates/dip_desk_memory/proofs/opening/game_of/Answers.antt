use Rattle.std.proofs.Common.{rules, map, string_bytes}
use Rattle.dip_desk_state.specs.ChangeRows as desk_rows
use Rattle.dip_desk_state.specs.Rows as rows
use Rattle.dip_desk_memory.proofs.PartLemmas.{new_game}
use Rattle.dip_desk_memory.proofs.opening.game_of.Goals as goal

pub returns-clause-game : goal.returns-clause-game
returns-clause-game c name is =
    new_game name
    (record {
      public = c.in_ok-new.field-0;
      papers = c.push.new.self;
      seats = c.in_ok-rows_of.field-0;
    })
    (rows.public c.args.public.now) (string_bytes c.args.paper.now) (map (λ n. desk_rows.new_seat n) c.args.seats.now) (search rules) (search rules)
    c.in_ok-rows_of.ensures
