use Rattle.std.proofs.Common.{ap, string_bytes}
use Rattle.dip_desk_state.specs.ChangeRows as desk_rows
use Rattle.dip_desk_state.specs.Rows as rows
use Rattle.dip_desk_memory.proofs.PartLemmas.{page_brings}
use Rattle.dip_desk_memory.proofs.recording.put_content.Goals as goal

pub returns-in-Publishes-clause-ok : goal.returns-in-Publishes-clause-ok
returns-in-Publishes-clause-ok c =
    page_brings (desk_rows.effect c.args.effect.now) (rows.public c.in-Publishes.public) (string_bytes c.in-Publishes.paper) c.in-Publishes.played c.args.game.now c.put_page.new.game c.put_page.result
    (ap (λ e. desk_rows.effect e) c.in-Publishes.is) c.put_page.ensures.public c.put_page.ensures.papers c.put_page.ensures.seats
