use Rattle.std.proofs.Common.{ap, map, string_bytes}
use Rattle.dip_desk_state.specs.ChangeRows as desk_rows
use Rattle.dip_desk_state.specs.Rows as rows
use Rattle.dip_store_memory.proofs.Idling.{begun_idle}
use Rattle.dip_store_memory.proofs.idle.IdleSeats.note_after.Goals as goal

pub returns-in-Opens : goal.returns-in-Opens
returns-in-Opens c s recalls apart =
    begun_idle (desk_rows.change c.args.change.now) s c.as_str.result.now (rows.public c.in-Opens.public) (string_bytes c.in-Opens.paper) (map desk_rows.new_seat c.in-Opens.seats.items) c.args.self.now c.begin.new.self c.as_str.ensures.value
    (ap (λ e. desk_rows.effect e) c.in-Opens.is) apart c.begin.ensures recalls
