use Rattle.std.proofs.Common.{List, ℕ, ap}
use Rattle.dip_desk_state.specs.ChangeRows as machine
use Rattle.dip_store_sql.specs.TablesAfter.{on_seat, secret_as}
use Rattle.dip_store_sql.proofs.Joining.{does_as, does_ok}
use Rattle.dip_store_changes.proofs.seats.replace.Goals as goal

pub returns-clause-does : goal.returns-clause-does
returns-clause-does g c =
    does_ok _ tt (does_as c.in_ok-replace_digest.ensures.does (λ t. ap (λ (power : List ℕ). on_seat c.args.game.now power (secret_as (machine.new_seat c.args.seat.now).digest) t) c.power_name.ensures))
