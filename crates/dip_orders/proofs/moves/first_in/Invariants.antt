use Rattle.std.proofs.Common.{◌≡◌, drop}
use Rattle.dip_orders.specs.Conditions.{first_in}
use Rattle.dip_orders.proofs.moves.first_in.Given as goal

abbrev pub invariant-loop-place : goal.invariant-loop-place
invariant-loop-place l = first_in (drop l.place-index l.places) l.q ≡ first_in l.places l.q
