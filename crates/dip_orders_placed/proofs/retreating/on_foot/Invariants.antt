use Rattle.std.proofs.Common.{◌≡◌, ◌++◌, drop}
use Rattle.dip_orders_placed.specs.Retreats.{on_foot}
use Rattle.dip_orders_placed.proofs.retreating.on_foot.Given as goal

abbrev pub invariant-loop-prov : goal.invariant-loop-prov
invariant-loop-prov l = l.places.items ++ on_foot (drop l.prov-index l.provinces) ≡ on_foot l.provinces
