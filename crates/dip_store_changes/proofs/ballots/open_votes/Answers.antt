use Rattle.std.proofs.Common.{refl}
use Rattle.dip_store_sql.proofs.Joining.{does_and, does_as, does_ok}
use Rattle.dip_store_changes.proofs.ballots.open_votes.Goals as goal

pub returns-clause-does : goal.returns-clause-does
returns-clause-does g c =
    does_ok _ tt (does_as (does_and (does_and c.in_ok-drop_ballots.ensures.does c.in_ok-add_ballots.ensures.does) c.in_ok-put_choice.ensures.does) (λ t. refl))
