use Rattle.std.proofs.Common.{ap, ◌∙◌}
use Rattle.dip_desk_state.specs.Rows as records
use Rattle.dip_store_sql.specs.TablesAfter.{on_seat}
use Rattle.dip_store_sql.proofs.Joining.{does_as, does_ok}
use Rattle.dip_store_counts.specs.Noting.{row_noted}
use Rattle.dip_store_changes.proofs.authors.note_row.Goals as goal

pub returns-clause-does : goal.returns-clause-does
returns-clause-does g c =
    let k = records.kept c.args.kept.now in
    let same = c.as_str.ensures.value ∙ c.in_ok-reply.ensures in
    does_ok _ tt (does_as c.in_ok-renew_seat.ensures.does
    (λ t. ap (λ r. on_seat c.args.game.now c.args.power.now (row_noted c.args.row.now (record { number = k.number; sum = k.sum; reply = r })) t) same))
