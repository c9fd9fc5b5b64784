use Rattle.std.proofs.Common.{ap}
use Rattle.dip_store_sql.proofs.Joining.{does_and, does_as, does_ok}
use Rattle.dip_store_changes.specs.Seats.{choosing}
use Rattle.dip_store_changes.proofs.ballots.put_choice.Goals as goal

pub returns-clause-does : goal.returns-clause-does
returns-clause-does g c =
    does_ok _ tt (does_as (does_and c.in_ok-drop_choices.ensures.does c.in_ok-add_choice.ensures.does) (λ t. ap (λ b. choosing c.args.game.now b t) c.intent.ensures))
