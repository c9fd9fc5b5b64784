use Rattle.std.proofs.Common.{◌≡◌, drop}
use Rattle.dip_desk_games.specs.ByPlace.{are_by_place}
use Rattle.dip_check_papers.proofs.given.are_by_place.Given as goal

abbrev pub invariant-loop-number : goal.invariant-loop-number
invariant-loop-number l = are_by_place (drop l.number l.orders) ≡ are_by_place l.orders
