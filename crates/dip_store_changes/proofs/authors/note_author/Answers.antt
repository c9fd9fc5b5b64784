use Rattle.std.proofs.Common.{ap, string_bytes}
use Rattle.dip_desk_state.specs.ChangeRows as machine
use Rattle.dip_desk_state.specs.Rows as records
use Rattle.dip_store_sql.proofs.Joining.{does_as}
use Rattle.dip_store_counts.proofs.Counting.{noted_as}
use Rattle.dip_store_changes.proofs.authors.note_author.Goals as goal

pub returns-in-Seat-clause-does : goal.returns-in-Seat-clause-does
returns-in-Seat-clause-does g c =
    let it = c.args.change.now in
    does_as c.note_own.ensures.does (noted_as c.args.row c.args.map.now (machine.author it.author) c.in-Seat.power (string_bytes it.game) (records.kept it.kept) _ _
    (ap (λ w. machine.author w) c.in-Seat.is) c.as_str-game.ensures.value c.power_name-name.ensures)
