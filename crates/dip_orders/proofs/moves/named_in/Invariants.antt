use Rattle.std.proofs.Common.{◌≡◌, drop}
use Rattle.dip_orders.specs.Conditions.{named_in}
use Rattle.dip_orders.proofs.moves.named_in.Given as goal

abbrev pub invariant-loop-place : goal.invariant-loop-place
invariant-loop-place l = named_in l.map (drop l.place-index l.places) l.q l.name ≡ named_in l.map l.places l.q l.name
