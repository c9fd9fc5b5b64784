use Rattle.std.proofs.Common.{◌≡◌, length}
use Rattle.dip_desk_games.specs.Ordering.{same_standings}
use Rattle.dip_desk_state.specs.Rows as rows
use Rattle.dip_desk_machine.proofs.ordering.are_same.Given as goal

abbrev pub invariant-loop-one : goal.invariant-loop-one
invariant-loop-one l = same_standings (rows.standings l.left) (rows.standings l.right) ≡ same_standings (rows.standings l.these) (rows.standings l.those)

abbrev pub decreases-loop-one : goal.decreases-loop-one
decreases-loop-one l = length l.left
