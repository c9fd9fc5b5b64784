use Rattle.std.proofs.Common.{◌≡◌, ◌++◌, drop}
use Rattle.dip_decide_table.specs.Matching.{provinces_of}
use Rattle.dip_decide_table.proofs.table.places_of.Given as goal

abbrev pub invariant-loop-placed : goal.invariant-loop-placed
invariant-loop-placed l = l.places.items ++ provinces_of (drop l.placed-index l.orders) ≡ provinces_of l.orders
