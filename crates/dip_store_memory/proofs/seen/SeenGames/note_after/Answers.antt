use Rattle.std.proofs.Common.{ap, map, string_bytes}
use Rattle.dip_desk_state.specs.ChangeRows as desk_rows
use Rattle.dip_desk_state.specs.Rows as rows
use Rattle.dip_desk_state.specs.State.{state_after}
use Rattle.dip_store_memory.proofs.Seeing.{opened, published}
use Rattle.dip_store_memory.proofs.seen.SeenGames.note_after.Goals as goal

pub returns-in-Opens : goal.returns-in-Opens
returns-in-Opens c s holds apart there =
    let it = desk_rows.change c.args.change.now in
    c.note_copy.ensures (state_after it s) holds (opened it s c.as_str.result.now (rows.public c.in-Opens.public) (string_bytes c.in-Opens.paper) (map desk_rows.new_seat c.in-Opens.seats.items) c.as_str.ensures.value
    (ap (λ e. desk_rows.effect e) c.in-Opens.is) apart)

pub returns-then-is_there : goal.returns-then-is_there
returns-then-is_there c s holds apart there =
    let it = desk_rows.change c.args.change.now in
    c.note_copy-then-is_there.ensures (state_after it s) holds (published it s c.as_str-then-is_there.result.now (rows.public c.in-Publishes.public) (string_bytes c.in-Publishes.paper) c.in-Publishes.played c.as_str-then-is_there.ensures.value
    (ap (λ e. desk_rows.effect e) c.in-Publishes.is) (there c.if-is_there.true))
